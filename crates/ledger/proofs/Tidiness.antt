-- Each call keeps a box tidy and its locks above the floor. After any sequence of calls from an empty store the box is also in order and within
-- its room, each lock is above the stamps of its key, and a collection at the store's floor would drop nothing. Assumes nothing.
use Prim.Native.Nat.{ℕ, ◌<◌}
use mathlib.Core.Path.{◌≡◌, refl, sym, ◌∙◌, subst}
use mathlib.Core.Bool.{Bool, true}
use mathlib.Core.List.{List, [], ◌∷◌}
use mathlib.Core.Option.{Option, none, some}
use lib.Dec.{leb}
use borrow.Author.Tests.{lt-ltb}
use Rattle.forms.specs.Key.{Key}
use Rattle.forms.specs.Batch.{Mutation}
use Rattle.rules.specs.Answers.{Accepted, need}
use Rattle.rules.specs.declared.records.Kind.TheVariants.{Rollback}
use Rattle.rules.specs.declared.records.Record.{Record}
use Rattle.rules.specs.Box.{Box, Lock, Line, Standing, Finished, KeyLine, fresh, before, records_of, lock_of, insert_line, drop_lock}
use Rattle.rules.specs.Calls.{State, kind_of, stamped_at, record_for}
use Rattle.rules.specs.Prewrite.{PrewriteTerms, lock_for, lock_line, unless_locked, apply_prewrite}
use Rattle.rules.specs.declared.terms.CommitTerms.{CommitTerms}
use Rattle.rules.specs.Commit.{with_start, commit_to, apply_commit}
use Rattle.rules.specs.Rollback.{rollback_to, apply_rollback}
use Rattle.rules.specs.OneStep.{apply_step}
use Rattle.rules.specs.Restore.{all_good}
use Rattle.rules.specs.Collect.{collected, line_above_step, locks_above_step, collect_steps, collect}
use Rattle.rules.specs.Call.{Changing, perform}
use Rattle.laws.proofs.StepLaws.{then-left, then-right, own-true, and_both}
use Rattle.laws.proofs.SettleLaws.{settle_state-answer, settle_state-new}
use Rattle.laws.proofs.Sorted.{all_insert, fewer-good}
use Rattle.laws.proofs.BoxOrder.{drop_lock-fewer}
use Rattle.laws.proofs.CommitLaws.{commit-order}
use Rattle.laws.proofs.RollbackLaws.{rollback-order}
use Rattle.laws.proofs.OneStepLaws.{step-order}
use Rattle.laws.proofs.CollectLaws.{collected-fewer, collected-order, lock-kept, records-kept, records-fewer, below-fewer}
use Rattle.ledger.specs.Ledger.{Named, each_named, Past, state_in, then, after, empty, of_line, Holds}
use Rattle.ledger.specs.Tidy.{Tidy, Rising, Unrestored, line_above, LocksAbove, Collected}
use Rattle.ledger.proofs.PairLaws.{paired, own-holds}
use Rattle.ledger.proofs.SoundEntries.{fresh-rising, prewrite-rising, ended-rising, commit-ended, rollback-ended, step-ended, prewrite-floor}
use Rattle.ledger.proofs.Always.{Entries, Inductive, always, after_kept, then-kept}
use Rattle.ledger.proofs.Pairs.{Claim, claims, claim-kept, pairs}
use Rattle.ledger.proofs.Rooms.{rooms}
use Rattle.ledger.proofs.CollectedAgain.{collected-kept, dropped-again, collect-again}

rising-entries : (f : ℕ) → Entries f (λ b log. Rising b)
rising-entries f = record {
  prewritten = λ h m b log z p. prewrite-rising h m b p;
  committed = λ h k b log z p v. ended-rising f b _ k (commit-ended f h k b z p) (commit-order h k b p v.order) v;
  rolled-back = λ txn s k b log z p v. ended-rising f b _ k (rollback-ended f txn s k b z p) (rollback-order s k b v.order) v;
  stepped = λ h m b log z e r p v. ended-rising f b _ m.key (step-ended f h m b z e r) (step-order h m b p v.order) v;
  applied_before = λ h m b log z p v. v;
}

-- locks stay, and of the records fewer are left
collected-rising : (f : ℕ) (b : Box) → Rising b → Rising (collected f b)
unfolding collected
collected-rising f b v = record {
  order = collected-order f b v.order;
  above = λ k l e. rw (records-kept f k b.lines) (below-fewer l.start (records-fewer f (records_of k b.lines)) (v.above k l (sym (lock-kept f k b.lines) ∙ e)));
}

rising-kept : Inductive (λ f ds b log. Rising b)
rising-kept = record { at_first = fresh-rising; entries = λ f ds. rising-entries f; collects = λ f g ds b log up l v. collected-rising g b v }

-- ---- every lock starts above the floor

-- a collection is let pass only so
locks-above : (f : ℕ) (es : List KeyLine) → locks_above_step f es ≡ Accepted → all_good (λ (e : KeyLine). line_above f e.line) es ≡ true
unfolding locks_above_step all_good
locks-above f [] p = refl
locks-above f (e ∷ es) p = and_both _ _ (go e.line (then-left _ _ p)) (locks-above f es (then-right _ _ p))
  where
    go : (x : Line) → line_above_step f x ≡ Accepted → line_above f x ≡ true
    go (Standing l) q = own-true _ _ q
    go (Finished w) q = refl

abbrev above_line : ℕ → KeyLine → Bool
above_line f e = line_above f e.line

-- a lock that comes starts above it
pub above-prewritten : (f : ℕ) (h : PrewriteTerms) (m : Mutation) (b : Box) → f < h.start → LocksAbove f b → LocksAbove f (apply_prewrite h m b)
unfolding apply_prewrite unless_locked lock_line
above-prewritten f h m b z v = go (lock_of m.key b.lines)
  where
    go : (o : Option Lock) → LocksAbove f (unless_locked o (lock_line h m b) b)
    go none = all_insert before (record { key = m.key; line = Standing (lock_for h (kind_of m.row)) }) (above_line f) b.lines (lt-ltb f h.start z) v
    go (some l) = v

-- a record comes, and its key's lock goes
above-closed : (f : ℕ) (k : Key) (w : Record) (es : List KeyLine) → all_good (above_line f) es ≡ true → all_good (above_line f) (insert_line (record { key = k; line = Finished w }) (drop_lock k es)) ≡ true
above-closed f k w es v = all_insert before (record { key = k; line = Finished w }) (above_line f) (drop_lock k es) refl (fewer-good (above_line f) (drop_lock-fewer k es) v)

pub above-committed : (f : ℕ) (h : CommitTerms) (k : Key) (b : Box) → LocksAbove f b → LocksAbove f (apply_commit h k b)
unfolding apply_commit commit_to
above-committed f h k b v = go (with_start h.start (records_of k b.lines)) (lock_of k b.lines)
  where
    go : (o : Option Record) (l : Option Lock) → LocksAbove f (commit_to h.commit b k o l)
    go (some w) l = v
    go none none = v
    go none (some l) = above-closed f k (record_for l.start h.commit l.kind) b.lines v

pub above-rolled-back : (f s : ℕ) (k : Key) (b : Box) → LocksAbove f b → LocksAbove f (apply_rollback s k b)
unfolding apply_rollback rollback_to
above-rolled-back f s k b v = go (stamped_at s (records_of k b.lines))
  where
    go : (o : Option Record) → LocksAbove f (rollback_to s b k o)
    go (some w) = v
    go none = above-closed f k (record_for s s Rollback) b.lines v

pub above-stepped : (f : ℕ) (h : CommitTerms) (m : Mutation) (b : Box) → LocksAbove f b → LocksAbove f (apply_step h m b)
unfolding apply_step
above-stepped f h m b v = above-closed f m.key (record_for h.start h.commit (kind_of m.row)) b.lines v

pub above_kept : Inductive (λ f ds b log. LocksAbove f b)
unfolding fresh all_good
above_kept = record {
  at_first = refl;
  entries = λ f ds. record {
    prewritten = λ h m b log z p. above-prewritten f h m b (prewrite-floor f h z);
    committed = λ h k b log z p. above-committed f h k b;
    rolled-back = λ txn s k b log z p. above-rolled-back f s k b;
    stepped = λ h m b log z e r p. above-stepped f h m b;
    applied_before = λ h m b log z p v. v;
  };
  collects = λ f g ds b log up l v. fewer-good (above_line g) (collected-fewer g b).lines (locks-above g b.lines l);
}

-- ---- every call

-- one name for each line of the box
abbrev pub own_log : Box → List Named
own_log b = each_named (of_line b.defaults) b.lines

pub own : (b : Box) → Tidy b → Holds b (own_log b)
own b v = own-holds b b.lines b.defaults v.pairs (λ k s. refl) (λ k s. refl)

-- a state with no past but its own lines
abbrev pub own_past : State → Past
own_past st = record { box = st.box; floor = st.floor; log = own_log st.box; dropped = [] }

pub tidy_of : {f : ℕ} {ds : List Named} {b : Box} {log : List Named} → Claim f ds b log → Tidy b
tidy_of {b = b} v = record { pairs = λ k s. paired b k s _ _ (v.fates k s); sound = v.sound }

pub fresh-tidy : Tidy fresh
fresh-tidy = tidy_of claim-kept.at_first

pub tidy-kept : (c : Changing) (st : State) → Tidy st.box → Tidy (perform c st).state.box
unfolding then
tidy-kept c st v = tidy_of (then-kept Claim claim-kept c (own_past st) (claims st.floor st.box (own_log st.box) (own st.box v) v.sound))

-- document 02, CR 7: "every lock starts above the floor", whatever the call
pub above-call : (c : Changing) (st : State) → LocksAbove st.floor st.box → LocksAbove (perform c st).state.floor (perform c st).state.box
unfolding then
above-call c st v = then-kept (λ f ds b log. LocksAbove f b) above_kept c (own_past st) v

-- ---- every sequence from an empty store

pub tidy : (cs : List Changing) → Unrestored (after cs empty).floor (after cs empty).box
tidy cs = record {
  tidy = tidy_of (pairs cs);
  rising = always (λ f ds b log. Rising b) rising-kept cs;
  room = rooms cs;
  above = always (λ f ds b log. LocksAbove f b) above_kept cs;
  collected = always (λ f ds b log. Collected f b) collected-kept cs;
}

-- ---- "a second collection at the same floor"

module _ (f : ℕ) (p : Past) (e : (perform (Changing.Collect f) (state_in p)).answer ≡ Accepted) where
  abbrev new : State
  new = record { box = collected f p.box; floor = f }

  passes : collect_steps f (state_in p) ≡ Accepted
  unfolding perform collect
  passes = sym (settle_state-answer (collect_steps f (state_in p)) new (state_in p)) ∙ e

  state_is : (perform (Changing.Collect f) (state_in p)).state ≡ new
  unfolding perform collect
  state_is = settle_state-new new (state_in p) passes

  first_above : LocksAbove (then (Changing.Collect f) p).floor (then (Changing.Collect f) p).box
  unfolding then collect_steps
  first_above =
      subst (λ (st : State). LocksAbove st.floor st.box) (sym state_is)
      (fewer-good (above_line f) (collected-fewer f p.box).lines (locks-above f p.box.lines (then-right (need (leb p.floor f) 14) _ passes)))

  first-collected : Collected (then (Changing.Collect f) p).floor (then (Changing.Collect f) p).box
  unfolding then collected
  first-collected = subst (λ (st : State). Collected st.floor st.box) (sym state_is) (dropped-again f p.box.lines)

-- from an accepted collection on, whatever calls come, a collection at the store's floor is accepted and changes nothing, as long as no image came
-- between: every later record is stamped above the floor, since every later start is
pub collected-since : (f : ℕ) (p : Past) (cs : List Changing) → (perform (Changing.Collect f) (state_in p)).answer ≡ Accepted
    → let q = after cs (then (Changing.Collect f) p) in collect q.floor (state_in q) ≡ record { answer = Accepted; state = state_in q }
collected-since f p cs e =
    let q = after cs (then (Changing.Collect f) p) in
    collect-again (state_in q) (after_kept (λ f ds b log. LocksAbove f b) above_kept cs (then (Changing.Collect f) p) (first_above f p e))
    (after_kept (λ f ds b log. Collected f b) collected-kept cs (then (Changing.Collect f) p) (first-collected f p e))
