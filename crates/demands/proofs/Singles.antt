-- Document 02, CR 10, carried to the store: a single form is its batch of one, answers and leaves what it did before, and refuses a longer key and a
-- longer row where it did. Assumes nothing.
use Prim.Native.Nat.{ℕ, ◌<◌}
use mathlib.Core.Path.{◌≡◌, sym, ap, ◌∙◌, subst}
use mathlib.Core.Bool.{false}
use mathlib.Core.List.{[], ◌∷◌}
use mathlib.Core.Option.{some}
use lib.ListN.{length}
use lib.Dec.{leb}
use borrow.Author.Tests.{lt-leb}
use Rattle.forms.specs.Bytes.{Bytes}
use Rattle.forms.specs.Key.{Key, key_form}
use Rattle.forms.specs.Row.{Row}
use Rattle.forms.specs.Batch.{Mutation, mutations, keys}
use Rattle.forms.specs.Ones.{one_mutation, one_key}
use Rattle.rules.specs.Answers.{Answer, Accepted, No, ◌▸◌, need}
use Rattle.rules.specs.declared.terms.CommitTerms.{CommitTerms}
use Rattle.rules.specs.Calls.{Done}
use Rattle.rules.specs.Prewrite.{PrewriteTerms, prewrite_terms_step, prewrite}
use Rattle.rules.specs.Commit.{commit_terms_step, commit_batch, commit}
use Rattle.rules.specs.Rollback.{rollback_terms_step, rollback_batch, rollback}
use Rattle.rules.specs.Call.{Changing}
use Rattle.laws.specs.Singles.{commit_alone, rollback_alone}
use Rattle.laws.proofs.StepLaws.{then-right}
use Rattle.laws.proofs.Singles.{refused, mutation-fits, key-fits, prewrite-one, prewrite-single, prewrite-long-key, prewrite-row-too-long, prewrite-named, commit-one, commit-single, commit-long-key, commit-named, rollback-one, rollback-single, rollback-long-key, rollback-named}
use Rattle.calls.specs.Settled.{Changed, Settled}
use Rattle.demands.specs.Calls.{a_change, Lent, box_in, floor_in, Given, changed, Kept, Same}
use Rattle.demands.specs.Demands.{changing}
use Rattle.demands.specs.Singles.{EndsAs, RefusedAs, SinglePrewrite, SinglePrewrites, SingleKey, SingleCommits, SingleRollbacks}
use Rattle.demands.proofs.Refusals.{both}
use Rattle.demands.proofs.Alike.{settled-once, changed-same}
use Rattle.demands.proofs.Carried.{settled-shows}
use Rattle.demands.proofs.StoreImages.{never}

-- ---- one changing call, by the definition of what it leaves

module _ (w : Lent) {d : Done} {r : Changed} {area : Bytes} (k : Settled w.store w.area d r area) where
  same-as : {e : Done} {q : Changed} {area' : Bytes} → e ≡ d → Settled w.store w.area e q area' → Same w (changed r area) (changed q area')
  same-as {q = q} {area' = area'} p l = changed-same w (settled-once k (subst (λ (x : Done). Settled w.store w.area x q area') p l))

  ends_as : {e : Done} → d ≡ e → EndsAs w (changed r area) e
  ends_as p = record { answer = k.answer_is.case_is ∙ ap (λ (x : Done). x.answer) p; state = settled-shows k ∙ ap (λ (x : Done). record { box = x.box; floor = floor_in w }) p }

  refused_as : {a : Answer} → (a ≡ Accepted → ⊥) → d ≡ refused a (box_in w) → RefusedAs w (changed r area) a
  refused_as n p =
      let e = k.answer_is.case_is ∙ ap (λ (x : Done). x.answer) p in
      record { answer = e; left = both w r.store area (k.refused (λ q. n (sym e ∙ q))) }

-- ---- prewrite

module _ (w : Lent) (h : PrewriteTerms) (m : Mutation) {r : Changed} {area : Bytes} (k : Kept w (changing (Changing.Prewrite h (one_mutation m))) (changed r area)) where
  prewrite-batch : (s : Bytes) → mutations s ≡ some (m ∷ []) → (q : Given a_change) → Kept w (changing (Changing.Prewrite h s)) q → Same w (changed r area) q
  unfolding prewrite
  prewrite-batch s e (changed q area') l = same-as w k (prewrite-one (floor_in w) h (box_in w) s m e ∙ sym (prewrite-single (floor_in w) h (box_in w) m)) l

  prewrite-long : (row : Row) → m.row ≡ some row → 255 < length row → RefusedAs w (changed r area) (prewrite_terms_step (floor_in w) h ▸ need (key_form m.key) 1 ▸ No 2)
  unfolding prewrite
  prewrite-long row e l =
      refused_as w k (λ p. never 2 (then-right (need (key_form m.key) 1) (No 2) (then-right (prewrite_terms_step (floor_in w) h) _ p)))
      (prewrite-row-too-long (floor_in w) h (box_in w) m row e (lt-leb (length row) 255 l))

pub single-prewrites : SinglePrewrites
unfolding prewrite
single-prewrites w h m (changed r area) k = record {
  fits = mutation-fits m;
  named = λ p. prewrite-named (floor_in w) h (box_in w) m (sym k.answer_is.case_is ∙ p);
  batch = prewrite-batch w h m k;
  before = ends_as w k (prewrite-single (floor_in w) h (box_in w) m);
  long_key = λ l. refused_as w k (λ p. never 1 (then-right (prewrite_terms_step (floor_in w) h) (No 1) p)) (prewrite-long-key (floor_in w) h (box_in w) m (lt-leb (length m.key) 255 l));
  long_row = prewrite-long w h m k;
}

-- ---- commit and rollback

-- what is said of both: `call s` is what the batch of the bytes s leaves
module _ (w : Lent) (Batch : Bytes → Given a_change → Type 0) (call : Bytes → Done) (settled : (s : Bytes) (q : Changed) (area : Bytes) → Batch s (changed q area) → Settled w.store w.area (call s) q area) where
  single-key : (alone : Done) (terms : Answer) (k : Key) → ((s : Bytes) → keys s ≡ some (k ∷ []) → call s ≡ alone) → call (one_key k) ≡ alone → (leb (length k) 255 ≡ false → call (one_key k) ≡ refused (terms ▸ No 1) (box_in w)) → ((call (one_key k)).answer ≡ Accepted → keys (one_key k) ≡ some (k ∷ [])) → (r : Changed) (area : Bytes) → Batch (one_key k) (changed r area) → SingleKey w Batch alone terms k (changed r area)
  single-key alone terms k one single long named r area l = record {
    fits = key-fits k;
    named = λ p. named (sym (settled (one_key k) r area l).answer_is.case_is ∙ p);
    batch = batch;
    before = ends_as w (settled (one_key k) r area l) single;
    long_key = λ f. refused_as w (settled (one_key k) r area l) (λ p. never 1 (then-right terms (No 1) p)) (long (lt-leb (length k) 255 f));
  }
    where
      batch : (s : Bytes) → keys s ≡ some (k ∷ []) → (q : Given a_change) → Batch s q → Same w (changed r area) q
      batch s e (changed q area') b = same-as w (settled (one_key k) r area l) (one s e ∙ sym single) (settled s q area' b)

pub single-commits : SingleCommits
unfolding commit
single-commits w h k (changed r area) l =
    single-key w (λ s q. Kept w (changing (Changing.Commit h s)) q) (λ s. commit_batch (floor_in w) h s (box_in w)) (λ s q x b. b) (commit_alone (floor_in w) h k (box_in w)) (commit_terms_step (floor_in w) h) k (λ s. commit-one (floor_in w) h (box_in w) s k)
    (commit-single (floor_in w) h (box_in w) k) (commit-long-key (floor_in w) h (box_in w) k) (commit-named (floor_in w) h (box_in w) k) r area l

pub single-rollbacks : SingleRollbacks
unfolding rollback
single-rollbacks w txn start k (changed r area) l =
    single-key w (λ s q. Kept w (changing (Changing.Rollback txn start s)) q) (λ s. rollback_batch (floor_in w) txn start s (box_in w)) (λ s q x b. b) (rollback_alone (floor_in w) txn start k (box_in w)) (rollback_terms_step (floor_in w) txn start) k
    (λ s. rollback-one (floor_in w) txn start (box_in w) s k) (rollback-single (floor_in w) txn start (box_in w) k) (rollback-long-key (floor_in w) txn start (box_in w) k) (rollback-named (floor_in w) txn start (box_in w) k) r area l
