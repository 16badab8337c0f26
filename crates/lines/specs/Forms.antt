-- The form of each line of a day file: its letter, what its fields hold, and what it says. One row a letter.
use Rattle.std.specs.Prelude.{ℕ, List, [], ◌∷◌, Bool, true, false, cond, get_or}
use Rattle.market.specs.declared.Call.TheVariants as call
use Rattle.market.specs.declared.Move.TheVariants as move
use Rattle.market.specs.declared.Session.TheVariants as session
use Rattle.market.specs.declared.Side.{Side}
use Rattle.market.specs.declared.Side.TheVariants.{Buy, Sell}
use Rattle.market.specs.declared.TimeInForce.{TimeInForce}
use Rattle.market.specs.declared.TimeInForce.TheVariants as force
use Rattle.market.specs.Tests.{◌=?◌}
use Rattle.lines.specs.declared.Line.{Line}
use Rattle.lines.specs.declared.Line.TheVariants as line
use Rattle.lines.specs.declared.Part.{Part}
use Rattle.lines.specs.declared.Part.TheVariants.{Force, Nothing, Number, Side as SideLetter}

-- a side is written B or L, and kept as 0 or 1; how an order enters is written K, I or A, and kept as 0, 1 or 2
abbrev pub side_of : ℕ → Side
side_of v = cond (v =? 0) Buy Sell

abbrev pub force_of : ℕ → TimeInForce
force_of v = cond (v =? 0) force.Kept (cond (v =? 1) force.ImmediateOrCancel force.FillOrKill)

-- the value of field i, from 0
abbrev pub at : List ℕ → ℕ → ℕ
at v i = get_or v i 0

-- past the last field
abbrev pub is_nothing : Part → Bool
is_nothing Number = false
is_nothing SideLetter = false
is_nothing Force = false
is_nothing Nothing = true

-- a letter, what the fields after it hold, and what the line says by their values
pub record Row : Type 0 where
  pub letter : ℕ
  pub parts : List Part
  pub says : List ℕ → Line

-- a letter that no line begins with
abbrev pub no_row : Row
no_row = record { letter = 0; parts = []; says = λ v. line.Malformed }

abbrev pub two : List Part
two = Number ∷ Number ∷ []

abbrev pub three : List Part
three = Number ∷ two

-- the lines of document 01's "Day file", in its order
abbrev pub table : List Row
table =
    -- `H,participants,currencies,securities`
    record { letter = 72; parts = three; says = λ v. line.Heading (at v 0) (at v 1) (at v 2) }
    -- `S,currency,lot,step`
    ∷ record { letter = 83; parts = three; says = λ v. line.Security (at v 0) (at v 1) (at v 2) }
    -- R/W (money up/down: participant,currency,amount)
    ∷ record { letter = 82; parts = three; says = λ v. line.Call (call.Reserve (move.IncreaseMoney (at v 0) (at v 1) (at v 2))) }
    ∷ record { letter = 87; parts = three; says = λ v. line.Call (call.Reserve (move.DecreaseMoney (at v 0) (at v 1) (at v 2))) }
    -- D/E (pieces up/down: participant,security,pieces)
    ∷ record { letter = 68; parts = three; says = λ v. line.Call (call.Reserve (move.IncreasePieces (at v 0) (at v 1) (at v 2))) }
    ∷ record { letter = 69; parts = three; says = λ v. line.Call (call.Reserve (move.DecreasePieces (at v 0) (at v 1) (at v 2))) }
    -- B/L (buy/sell: participant,security,price,lots,kind)
    ∷ record {
      letter = 66;
      parts = Number ∷ Number ∷ Number ∷ Number ∷ Force ∷ [];
      says = λ v. line.Call
          (call.Order (at v 0)
          (record { side = Buy; security = at v 1; price = at v 2; lots = at v 3 })
          (force_of (at v 4)));
    }
    ∷ record {
      letter = 76;
      parts = Number ∷ Number ∷ Number ∷ Number ∷ Force ∷ [];
      says = λ v. line.Call
          (call.Order (at v 0)
          (record { side = Sell; security = at v 1; price = at v 2; lots = at v 3 })
          (force_of (at v 4)));
    }
    -- X (participant,code)
    ∷ record { letter = 88; parts = two; says = λ v. line.Call (call.Cancel (at v 0) (at v 1)) }
    -- `G,participant,n`
    ∷ record { letter = 71; parts = two; says = λ v. line.Call (call.Group (at v 0) (at v 1)) }
    -- `M,side,security,price,lots`
    ∷ record {
      letter = 77;
      parts = SideLetter ∷ three;
      says = λ v. line.Member
          (record { side = side_of (at v 0); security = at v 1; price = at v 2; lots = at v 3 });
    }
    -- C (start)
    ∷ record { letter = 67; parts = []; says = λ v. line.Call (call.Start session.Closing) }
    -- P (closing: participant,side,security,lots)
    ∷ record {
      letter = 80;
      parts = Number ∷ SideLetter ∷ two;
      says = λ v. line.Call (call.ClosingOrder (at v 0) (side_of (at v 1)) (at v 2) (at v 3));
    }
    -- Z (end)
    ∷ record { letter = 90; parts = []; says = λ v. line.Call (call.End session.Closing) }
    ∷ []

-- the first row with that letter
unfoldable pub row_in : ℕ → List Row → Row
row_in letter [] = no_row
row_in letter (r ∷ rs) = cond (letter =? r.letter) r (row_in letter rs)

unfoldable pub row_of : ℕ → Row
row_of letter = row_in letter table
