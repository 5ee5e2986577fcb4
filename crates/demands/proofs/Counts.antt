-- Document 02, CR 6, carried to the store: the count of a read is what the request says of it. Assumes nothing.
use Prim.Native.Nat.{ℕ}
use mathlib.Core.Path.{sym, subst}
use Rattle.rules.specs.Answers.{Answer, answer_of}
use Rattle.rules.specs.Examined.{CountTold}
use Rattle.rules.specs.Read.{examine}
use Rattle.rules.proofs.ExaminedLaws.{count-told}
use Rattle.demands.specs.Calls.{box_in, floor_in, seen, answer_in}
use Rattle.demands.specs.Counts.{ReadsCounted}

pub reads-counted : ReadsCounted
reads-counted w k m (seen r part) p =
    subst (λ (n : ℕ). CountTold k m (box_in w) (answer_in w (seen r part)) n) (sym p.0.count_is)
    (subst (λ (a : Answer). CountTold k m (box_in w) a (examine (floor_in w) k m (box_in w)).count) (sym p.0.seen_as.answer_is.case_is) (count-told (floor_in w) k m (box_in w)))
