-- `reserves::moved` meets its contract: each move is its call's.
use mathlib.Core.Path.{refl}
use Rattle.market.specs.declared.Asset.TheVariants.{Money, Pieces}
use Rattle.market.specs.Positions.{draw, receive}
use Rattle.market.specs.Questions.{is_free, questions, total_fits}
use Rattle.market.specs.Step.{effect}
use Rattle.reserves.proofs.Moving.{carries_moved}
use Rattle.reserves.proofs.moved.Goals as goal

pub increase-requires : goal.increase-requires
increase-requires c = c.requires.money

pub returns-in-IncreaseMoney : goal.returns-in-IncreaseMoney
unfolding questions total_fits effect
returns-in-IncreaseMoney c =
    rw c.in-IncreaseMoney.is
    (record { rest = refl; call = λ g l t. carries_moved _ _ l _ Money _ _ (receive _) t refl refl c.increase.ensures })

pub decrease-requires : goal.decrease-requires
decrease-requires c = c.requires.money.bounded

pub returns-in-DecreaseMoney : goal.returns-in-DecreaseMoney
unfolding questions is_free effect
returns-in-DecreaseMoney c =
    rw c.in-DecreaseMoney.is
    (record { rest = refl; call = λ g l t. carries_moved _ _ l _ Money _ _ (draw _) t refl refl c.decrease.ensures })

pub increase-requires-in-IncreasePieces : goal.increase-requires-in-IncreasePieces
increase-requires-in-IncreasePieces c = c.requires.pieces

pub returns-in-IncreasePieces : goal.returns-in-IncreasePieces
unfolding questions total_fits effect
returns-in-IncreasePieces c =
    rw c.in-IncreasePieces.is
    (record { rest = refl; call = λ g l t. carries_moved _ _ l _ Pieces _ _ (receive _) t refl refl c.increase-in-IncreasePieces.ensures })

pub decrease-requires-in-DecreasePieces : goal.decrease-requires-in-DecreasePieces
decrease-requires-in-DecreasePieces c = c.requires.pieces.bounded

pub returns-in-DecreasePieces : goal.returns-in-DecreasePieces
unfolding questions is_free effect
returns-in-DecreasePieces c =
    rw c.in-DecreasePieces.is
    (record { rest = refl; call = λ g l t. carries_moved _ _ l _ Pieces _ _ (draw _) t refl refl c.decrease-in-DecreasePieces.ensures })
