-- The members of a group, turn by turn.
use Prim.Native.Nat.{ℕ, ◌+◌, ◌*◌, ◌≤◌, ◌<◌}
use native.Mathlib.Nat.{add-zero}
use native.Mathlib.Numerals.{add-one}
use native.Mathlib.Omega.{arith}
use mathlib.Core.Path.{◌≡◌, refl, ap, sym, ◌∙◌, subst}
use mathlib.Core.List.{List, [], ◌∷◌, ◌++◌, append-nil}
use lib.ListN.{length, take, drop, get_or, drop_of_length-le, length-append, length-drop, length-take}
use lib.Seq.{drop-cons, length-take-le}
use Rattle.market.specs.declared.Access.TheVariants.{Member}
use Rattle.market.specs.declared.Answer.{Answer}
use Rattle.market.specs.declared.Answer.TheVariants.{Done, Refused}
use Rattle.market.specs.declared.Floor.{Floor}
use Rattle.market.specs.declared.Ticket.{Ticket}
use Rattle.market.specs.declared.Order.{Order}
use Rattle.market.specs.declared.Rules.{Rules}
use Rattle.market.specs.declared.TimeInForce.TheVariants.{FillOrKill}
use Rattle.market.specs.Limits.{lent_at_least, max_lots, max_members, max_waiting, min_members, numbers_per_trade}
use Rattle.market.specs.Day.{Day}
use Rattle.market.specs.View.{day_of}
use Rattle.market.specs.TradeList.{Trade, written}
use Rattle.market.specs.Answers.{Result}
use Rattle.market.specs.Calls.{entry_of, linked}
use Rattle.market.specs.Entry.{entered}
use Rattle.market.specs.Linked.{Group, members, passed, stopped}
use Rattle.market.specs.Parts.{Carries}
use Rattle.market.proofs.Logic.{within_high, within_low}
use Rattle.market.proofs.Phases.{member_open}
use Rattle.market.proofs.View.{first_length}
use Rattle.invariant.specs.Standing.{Standing}
use Rattle.invariant.proofs.Sound.{ready_standing}
use Rattle.invariant.proofs.Whole.{whole_few, whole_standing}
use Rattle.codes.specs.Numbers.{Numberable}
use Rattle.orders.specs.Entering.{Enterable, EntersAs, member_no}
use Rattle.orders.proofs.Asking.{count_within, counted}
use Rattle.orders.proofs.Calling.{enters, in_lots, numberable}
use Rattle.linked.specs.Group.{Groupable}
use Rattle.linked.proofs.Calling.{group_carries}
use Rattle.linked.proofs.Lent.{lent_from, put_back, returned, returned_written, written_length}
use Rattle.linked.proofs.Taken.{before, before_none, member_accepted, member_few, member_refused}

-- what a group starts from
pub record From : Type 0 where
  pub rules : Rules
  pub floor : Floor
  pub owner : ℕ
  pub count : ℕ
  pub members : List Ticket
  pub list : List ℕ

abbrev pub day_at : From → Floor → Day
day_at s f = day_of s.rules f

abbrev pub GroupableFrom : From → Type 0
GroupableFrom s = Groupable s.rules s.floor s.count s.list

-- the members of the group, and what they come to
abbrev pub taken : From → List Ticket
taken s = take s.count s.members

abbrev pub whole : From → Group
whole s = members 1 (day_at s s.floor) s.owner (taken s)

abbrev pub CarriesFrom : From → Floor → List ℕ → Answer → Type 0
CarriesFrom s f' l' a = Carries s.rules s.floor s.list (linked s.owner s.count s.members) f' l' a

-- before a turn, on floor f: the group comes to what is done and the members from here on
pub record Turn (s : From) (f : Floor) (l : List ℕ) (filled made i : ℕ) : Type 0 where
  pub able : GroupableFrom s
  pub listed : length s.members ≡ max_members
  pub turns : i ≤ s.count
  pub stays : Standing (day_at s f)
  pub trades : List Trade
  pub number : made ≡ length trades
  pub space : made + f.count ≤ s.floor.count + i
  pub lots : filled ≤ max_lots * i
  pub owner : 0 < i → s.owner < s.rules.participants
  pub list : l ≡ written trades s.list
  pub runs : whole s ≡ before filled trades (members (i + 1) (day_at s f) s.owner (drop i (taken s)))

-- what the answer of a member says: the group stops with number and place, and nothing is written; or it goes on
abbrev pub Tells : From → (l : List ℕ) → (filled made i : ℕ) → Floor → (l1 : List ℕ) → Answer → Type 0
Tells s l filled made i f1 l1 (Refused number place) = (whole s ≡ stopped number place) × (l1 ≡ l)
Tells s l filled made i f1 l1 (Done code lots left number) = Turn s f1 l1 (filled + lots) (made + number) (i + 1)

pub few_members : {r : Rules} {f : Floor} {n : ℕ} {l : List ℕ} → Groupable r f n l → n ≤ max_members
few_members {n = n} able = within_high min_members max_members n able.few

module _ (s : From) (able : GroupableFrom s) where
  standing_before : Standing (day_at s s.floor)
  standing_before = ready_standing able.ready

  few_before : s.floor.count ≤ max_waiting
  few_before = count_within s.rules s.floor standing_before

  some_members : 0 < s.count
  some_members = omega (arith, within_low min_members max_members s.count able.few)

  pub turn_first : length s.members ≡ max_members → Turn s s.floor s.list 0 0 0
  turn_first listed = record {
    able = able;
    listed = listed;
    turns = omega arith;
    stays = standing_before;
    trades = [];
    number = refl;
    space = omega arith;
    lots = omega arith;
    owner = λ h. absurd (omega arith);
    list = refl;
    runs = before_none _;
  }

module _ {s : From} {f : Floor} {l : List ℕ} {filled made i : ℕ} (t : Turn s f l filled made i) where
  -- what is added up stays small
  pub turn_sums : (filled ≤ max_lots * max_members) × (numbers_per_trade * made ≤ lent_at_least)
  turn_sums = (
    omega (arith, t.lots, t.turns, few_members t.able),
    omega (arith, t.space, t.turns, few_before s t.able, few_members t.able),
  )

  all_taken : length (taken s) ≡ s.count
  all_taken = length-take-le s.count s.members (omega (arith, t.listed, few_members t.able))

  -- before a member there is room for as many trades as orders wait
  pub turn_room : i < length (taken s) → numbers_per_trade * (made + f.count) ≤ lent_at_least
  turn_room h = omega (arith, t.space, all_taken, few_before s t.able, few_members t.able)

  pub turn_long : length l ≡ length s.list
  turn_long =
      ap length t.list
      ∙ written_length t.trades s.list (omega (arith, t.number, turn_sums.1, t.able.lent))

  next_member : (z : Ticket) → i < length (taken s) → drop i (taken s) ≡ get_or (taken s) i z ∷ drop (i + 1) (taken s)
  next_member z h = rw (add-one, drop-cons (taken s) i z)

  -- a turn of member q
  module _ (z : Ticket) (h : i < length (taken s)) where
    abbrev q : Ticket
    q = get_or (taken s) i z

    abbrev d : Day
    d = day_at s f

    abbrev rest : List Ticket
    rest = drop (i + 1) (taken s)

    runs_here : whole s ≡ before filled t.trades (members (i + 1) d s.owner (q ∷ rest))
    runs_here =
        t.runs ∙ ap (λ (x : List Ticket). before filled t.trades (members (i + 1) d s.owner x)) (next_member z h)

    pub tells_no : (n : ℕ) → 0 < n → n ≡ member_no d s.owner q → Tells s l filled made i f l (Refused n (i + 1))
    tells_no n some en = (
      runs_here ∙ member_refused d s.owner q (i + 1) filled t.trades rest n some (sym en),
      refl,
    )

    -- no question is answered "no"
    module _ (clear : 0 ≡ member_no d s.owner q) where
      asked : member_no d s.owner q ≡ 0
      asked = sym clear

      -- its order can be numbered, and its lots stored
      pub makeable : Numberable s.rules.participants f.codes s.owner × (q.lots ≤ max_lots)
      makeable = (
        numberable s.rules f t.stays s.owner q Member FillOrKill asked,
        in_lots s.rules f t.stays s.owner q Member FillOrKill asked,
      )

      -- the list is lent from here on
      module _ (at : ℕ) (here : at ≡ numbers_per_trade * made) {e : Order} (entry : e ≡ entry_of d s.owner q) where
        pub turn_enters : Enterable s.rules f e FillOrKill (lent_from l at)
        turn_enters = record {
          opens = member_open f.phase (enters s.rules f t.stays s.owner q Member FillOrKill asked);
          standing = t.stays;
          participant = s.owner;
          member = q;
          access = Member;
          entry = entry;
          asked = asked;
          lent = simp (length-take, length-drop) (omega (arith, turn_room h, turn_long, t.able.lent));
        }

        abbrev result : Result
        result = entered d (entry_of d s.owner q) FillOrKill

        -- and the member is entered: floor f1, and the lent part
        module _ {f1 : Floor} {part : List ℕ} {a : Answer} (entering : EntersAs (entered d e FillOrKill) s.rules (lent_from l at) f1 part a) where
          done : EntersAs result s.rules (lent_from l at) f1 part a
          done = subst (λ (o : Order). EntersAs (entered d o FillOrKill) s.rules (lent_from l at) f1 part a) entry entering

          few : length result.trades + f1.count ≤ f.count + 1
          few =
              omega (
                arith,
                whole_few d s.owner q t.stays asked,
                ap (λ (x : Day). length x.waiting) done.day,
                first_length f1.count f1.orders,
                first_length f.count f.orders,
              )

          pub tells_done : Tells s l filled made i f1 (returned l at part) a
          unfolding entered
          tells_done =
              rw done.answer
              (record {
                able = t.able;
                listed = t.listed;
                turns = omega (arith, all_taken);
                stays = subst Standing (sym done.day) (whole_standing d s.owner q t.stays asked);
                trades = t.trades ++ result.trades;
                number = omega (arith, t.number, length-append t.trades result.trades);
                space = omega (arith, t.space, few);
                lots = omega (arith, t.lots, member_few d s.owner q asked);
                owner = λ x. makeable.0.participant;
                list =
                    returned_written s.list l part t.trades result.trades at (omega (arith, t.number)) t.list
                    done.list;
                runs =
                    runs_here
                    ∙ member_accepted d s.owner q (i + 1) filled t.trades rest asked
                    ∙ rw (← add-one (i + 1), ← done.day);
              })

  -- the group stops: floor and list are put back
  pub turn_stops : (a : Answer) (number place : ℕ) → a ≡ Refused number place → (l1 : List ℕ)
      → (whole s ≡ stopped number place) × (l1 ≡ l) → (at : ℕ) → at ≡ numbers_per_trade * made
      → (kept : List ℕ) → kept ≡ take lent_at_least s.list
      → CarriesFrom s s.floor (take at kept ++ drop at l1) a
  turn_stops a number place told l1 stop at here kept saved =
      rw (
        told,
        stop.1,
        put_back s.list l kept t.trades at (omega (arith, t.number)) (omega (arith, turn_sums.1)) t.list saved,
      )
      (group_carries s.rules s.floor s.list s.owner s.count s.members t.able (stopped number place) stop.0 s.floor s.list
      (Refused number place) refl refl refl refl)

  -- there are members, so that the participant is known
  pub turns_owner : length (taken s) ≤ i → Numberable s.rules.participants s.floor.codes s.owner
  turns_owner h =
      let st = standing_before s t.able in
      counted st.backed.rules_ok st.limit (t.owner (omega (arith, all_taken, some_members s t.able)))

  pub turns_end : length (taken s) ≤ i → (code : ℕ) → code ≡ get_or s.floor.codes s.owner 0 + 1
      → CarriesFrom s f l (Done code filled 0 made)
  unfolding members
  turns_end h code first =
      let none : drop i (taken s) ≡ [] = drop_of_length-le (taken s) {i = i} h in
      let all-is : whole s ≡ passed (day_at s f) filled t.trades =
      t.runs
      ∙ ap (λ (x : List Ticket). before filled t.trades (members (i + 1) (day_at s f) s.owner x)) none
      ∙ rw (add-zero filled, append-nil t.trades) in
      rw (first, t.number, t.list)
      (group_carries s.rules s.floor s.list s.owner s.count s.members t.able (passed (day_at s f) filled t.trades) all-is f _ _ refl
      refl refl tt)
