-- What the checks of a commit come to, a key at a time and whole. The steps are document 01's without those that no store can fail (KeyLaws).
-- Assumes nothing.
use Rattle.std.specs.Prelude.{◌≡◌, Bool, false, ◌&&◌, ◌||◌, not, List, [], ◌∷◌, eqb}
use Rattle.std.proofs.Math.Option.{Option, none, some}
use Rattle.forms.specs.Key.{Key}
use Rattle.forms.specs.Readers.{is_some}
use Rattle.rules.specs.Answers.{Answer, No, ◌▸◌, need, need_own}
use Rattle.rules.specs.declared.records.Kind.TheVariants.{Rollback}
use Rattle.rules.specs.declared.records.Record.{Record}
use Rattle.rules.specs.Box.{Box, Lock, holder_of, records_of, eq_kind}
use Rattle.rules.specs.Calls.{owns}
use Rattle.rules.specs.declared.terms.CommitTerms.{CommitTerms}
use Rattle.rules.specs.Commit.{with_start}
use Rattle.calls.specs.Settled.{is_accepted}
use Rattle.calls.specs.Passes.{BatchVerdict}

-- "Rollback, 8; other commit, 8; equal commit, accepted and unchanged"
abbrev pub record_steps : CommitTerms → Record → Answer
record_steps h w =
    need (not (eq_kind w.kind Rollback)) 8 ▸
    need (eqb w.commit h.commit) 8

-- "None: no lock, 8; another's lock, 7; newest stamp at or above commit, 8"
abbrev pub lock_steps : CommitTerms → Bool → Option Lock → Answer
lock_steps h newer none = No 8
lock_steps h newer (some l) =
    need_own (owns h.txn h.start l) (holder_of l) ▸
    need newer 8

-- the key has no record of this start yet
abbrev pub is_new : CommitTerms → Box → Key → Bool
is_new h b k = not (is_some (with_start h.start (records_of k b.lines)))

unfoldable pub some_new : CommitTerms → Box → List Key → Bool
some_new h b [] = false
some_new h b (k ∷ ks) = is_new h b k || some_new h b ks

-- the definition's answer; the box becomes another one where all passes and there is something new
pub record Judged (answer : Answer) (new : Bool) (r : BatchVerdict) : Type 0 where
  pub answer_is : r.answer ≡ answer
  pub moves_is : r.moves ≡ is_accepted r.answer && new
