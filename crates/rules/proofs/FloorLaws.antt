-- Document 02, CR 7: "The floor is part of the store, begins at 0". On the floor 0 answer 14 never comes: a start of 0 is 3 before, and no moment
-- is below 0. So with 0 for the floor the steps are document 01's. On any floor 14 is the last of a changing call's terms, after these. And at
-- or above the floor a read is that of the floor 0.
-- Assumes nothing.
use Prim.Native.Nat.{ℕ, ◌≤◌, ◌<◌}
use native.Mathlib.Omega.{arith}
use mathlib.Core.Path.{◌≡◌, refl, ap, ◌∙◌}
use mathlib.Core.Bool.{Bool, true, false, not}
use lib.Dec.{ltb, eqb}
use borrow.Author.Tests.{le-leb, lt-ltb, eqb-false}
use Rattle.forms.specs.Key.{Key, key_form}
use Rattle.rules.specs.Answers.{Answer, Accepted, No, Held, ◌▸◌, need}
use Rattle.rules.specs.declared.terms.CommitTerms.{CommitTerms}
use Rattle.rules.specs.Box.{Box, lock_of}
use Rattle.rules.specs.Read.{lock_lets, Examined, read_steps, examine, read}
use Rattle.rules.specs.Page.{Bounds, page_arguments, row_page_steps}
use Rattle.rules.specs.Calls.{zero_step}
use Rattle.rules.specs.Prewrite.{PrewriteTerms, prewrite_terms_step}
use Rattle.rules.specs.Commit.{commit_terms_step}
use Rattle.rules.specs.Rollback.{rollback_terms_step}

then-accepted : (a : Answer) → a ▸ Accepted ≡ a
unfolding ◌▸◌
then-accepted Accepted = refl
then-accepted (No n) = refl
then-accepted (Held h) = refl

-- ---- changing calls: a start of 0 is 3 before

some-start : (s : ℕ) (a : Answer) → need (not (eqb s 0)) 3 ▸ (a ▸ need (ltb 0 s) 14) ≡ need (not (eqb s 0)) 3 ▸ a
unfolding need ◌▸◌
some-start s a = go (eqb s 0) refl
  where
    above : eqb s 0 ≡ false → 0 < s
    above e = let n : s ≡ 0 → ⊥ = eqb-false s 0 e in omega (arith, n)

    go : (t : Bool) → eqb s 0 ≡ t → need (not t) 3 ▸ (a ▸ need (ltb 0 s) 14) ≡ need (not t) 3 ▸ a
    go true e = refl
    go false e = rw (lt-ltb 0 s (above e)) (then-accepted a)

then-assoc : (a b c : Answer) → (a ▸ b) ▸ c ≡ a ▸ (b ▸ c)
unfolding ◌▸◌
then-assoc Accepted b c = refl
then-assoc (No n) b c = refl
then-assoc (Held h) b c = refl

pub prewrite-on-0 : (h : PrewriteTerms) → prewrite_terms_step 0 h ≡ need (not (eqb h.txn 0)) 3 ▸ need (not (eqb h.start 0)) 3 ▸ need (key_form h.primary) 1 ▸ need (not (eqb h.ttl 0)) 3
unfolding prewrite_terms_step
prewrite-on-0 h =
    let e = some-start h.start (need (key_form h.primary) 1 ▸ need (not (eqb h.ttl 0)) 3) in
    ap (λ (a : Answer). need (not (eqb h.txn 0)) 3 ▸ a) (rw (then-assoc (need (key_form h.primary) 1) (need (not (eqb h.ttl 0)) 3) (need (ltb 0 h.start) 14)) at e)

-- of a commit and of a one-step batch
pub commit-on-0 : (h : CommitTerms) → commit_terms_step 0 h ≡ zero_step h.txn h.start ▸ need (ltb h.start h.commit) 3
unfolding commit_terms_step zero_step
commit-on-0 h =
    let a = need (not (eqb h.txn 0)) 3 in
    let b = need (not (eqb h.start 0)) 3 in
    rw (then-assoc a b (need (ltb h.start h.commit) 3 ▸ need (ltb 0 h.start) 14), then-assoc a b (need (ltb h.start h.commit) 3)) (ap (λ (z : Answer). a ▸ z) (some-start h.start (need (ltb h.start h.commit) 3)))

only-start : (s : ℕ) → need (not (eqb s 0)) 3 ▸ need (ltb 0 s) 14 ≡ need (not (eqb s 0)) 3
unfolding ◌▸◌
only-start s = some-start s Accepted ∙ then-accepted (need (not (eqb s 0)) 3)

pub rollback-on-0 : (txn start : ℕ) → rollback_terms_step 0 txn start ≡ zero_step txn start
unfolding rollback_terms_step zero_step
rollback-on-0 txn start =
    let a = need (not (eqb txn 0)) 3 in
    rw (then-assoc a (need (not (eqb start 0)) 3) (need (ltb 0 start) 14)) (ap (λ (z : Answer). a ▸ z) (only-start start))

-- ---- on any floor 14 comes last

pub prewrite-last : (floor : ℕ) (h : PrewriteTerms) → prewrite_terms_step floor h ≡ prewrite_terms_step 0 h ▸ need (ltb floor h.start) 14
unfolding prewrite_terms_step
prewrite-last floor h =
    let a = need (not (eqb h.txn 0)) 3 in
    let b = need (not (eqb h.start 0)) 3 in
    let c = need (key_form h.primary) 1 in
    let d = need (not (eqb h.ttl 0)) 3 in
    let last = need (ltb floor h.start) 14 in
    rw (prewrite-on-0 h, then-assoc a (b ▸ c ▸ d) last, then-assoc b (c ▸ d) last, then-assoc c d last)

pub commit-last : (floor : ℕ) (h : CommitTerms) → commit_terms_step floor h ≡ commit_terms_step 0 h ▸ need (ltb floor h.start) 14
unfolding commit_terms_step
commit-last floor h = rw (commit-on-0 h, then-assoc (zero_step h.txn h.start) (need (ltb h.start h.commit) 3) (need (ltb floor h.start) 14))

-- ---- reads and row pages: no moment is below 0

-- at or above the floor nothing is asked
pub steps-above : (floor : ℕ) (k : Key) (m : ℕ) (b : Box) → floor ≤ m → read_steps floor k m b ≡ need (key_form k) 1 ▸ lock_lets m (lock_of k b.lines)
unfolding read_steps need ◌▸◌
steps-above floor k m b h = rw (le-leb floor m h)

pub read-on-0 : (k : Key) (m : ℕ) (b : Box) → read_steps 0 k m b ≡ need (key_form k) 1 ▸ lock_lets m (lock_of k b.lines)
read-on-0 k m b = steps-above 0 k m b (omega arith)

pub examine-above : (floor : ℕ) (k : Key) (m : ℕ) (b : Box) → floor ≤ m → examine floor k m b ≡ examine 0 k m b
unfolding examine
examine-above floor k m b h = rw (steps-above floor k m b h, read-on-0 k m b)

pub read_above : (floor : ℕ) (k : Key) (m : ℕ) (b : Box) → floor ≤ m → read floor k m b ≡ read 0 k m b
unfolding read
read_above floor k m b h = ap (λ (x : Examined). x.reply) (examine-above floor k m b h)

pub page-above : (floor moment limit bytes : ℕ) (a : Bounds) → floor ≤ moment → row_page_steps floor moment limit bytes a ≡ page_arguments limit bytes a
unfolding row_page_steps need
page-above floor moment limit bytes a h = rw (le-leb floor moment h) (then-accepted (page_arguments limit bytes a))

pub page-on-0 : (moment limit bytes : ℕ) (a : Bounds) → row_page_steps 0 moment limit bytes a ≡ page_arguments limit bytes a
page-on-0 moment limit bytes a = page-above 0 moment limit bytes a (omega arith)
