-- "What the signatures must settle": for each public call, two outcomes that both keep its promise have the same number, holder, count, shown
-- row, box and buffer; one law a call, and then all of them. docs/PROMISES.md lists what is left open, and why.
-- Assumes nothing.
use Prim.Native.Nat.{ℕ, ◌-◌}
use native.Mathlib.Nat.{sub-zero}
use mathlib.Core.Path.{◌≡◌, refl, sym, ap, ap₂, ◌∙◌, subst}
use mathlib.Core.List.{List}
use lib.ListN.{drop, replicate}
use Rattle.seqs.specs.Tables.{Table}
use Rattle.forms.specs.Bytes.{Bytes}
use Rattle.forms.specs.Key.{Key}
use Rattle.forms.specs.Row.{Row}
use Rattle.rules.specs.declared.room.Load.{Load}
use Rattle.rules.specs.Answers.{answer_of}
use Rattle.rules.specs.Box.{Box, fresh}
use Rattle.rules.specs.Room.{load_of, sum_of}
use Rattle.rules.specs.Calls.{State, fresh_state, Done, Ended}
use Rattle.rules.specs.Page.{Bounds, Limits}
use Rattle.rules.specs.Prewrite.{PrewriteTerms}
use Rattle.rules.specs.declared.terms.CommitTerms.{CommitTerms}
use Rattle.rules.specs.Collect.{collect}
use Rattle.rules.specs.Call.{Changing, Call}
use Rattle.rules.specs.Written.{Written, WroteAs}
use Rattle.laws.proofs.StepLaws.{answered}
use Rattle.store.specs.declared.table.Store.{Store}
use Rattle.store.specs.declared.table.Slot.{Slot}
use Rattle.store.specs.View.{box_of, state_shown, no_slot}
use Rattle.store.specs.Made.{Made, FreshStore, store_of}
use Rattle.calls.specs.Settled.{Changed, Untouched, Settled, Replaced}
use Rattle.collects.specs.Promise.{CollectedAs}
use Rattle.reads.specs.Seen.{RowSeen, LockSeen}
use Rattle.reads.proofs.PartLaws.{one-reply, one-row, one-lock, one-primary}
use Rattle.rules.specs.Outcomes.{Wrote}
use Rattle.pages.proofs.PageLaws.{one_answer, one-count, one-buffer}
use Rattle.demands.specs.Calls.{starting, calling, handing_row, handing_primary, Sort, Lent, state_in, Given, started, seen, pointed, handed, paged, changed, stepped, counted, marked, boned, summed, row_in, lock_in, bone_in, bones_in, chains, highest, answer_in, count_in, shown_in, part_in, after, Same, Once, OneOutcome, OneRefusal}
use Rattle.demands.proofs.Refusals.{refusals}

-- the parts of `Same`; one answer has one number and one holder
same : {o : Sort} (w : Lent) (g q : Given o) → answer_in w g ≡ answer_in w q → count_in g ≡ count_in q → shown_in w g ≡ shown_in w q → part_in g ≡ part_in q → state_in (after w g) ≡ state_in (after w q) → (after w g).buffer ≡ (after w q).buffer → Same w g q
same w g q a n s p b o = record { answer = answered a; count = n; shown = s; part = p; state = b; buffer = o }

-- ---- a fresh store: the very same value, with whatever area

none-counts : {A : Type 0} {P : A → Type 0} {empty : A} {size n : ℕ} {l : List A} → Table P empty size n l → n ≡ 0 → l ≡ replicate size empty
none-counts {empty = empty} {size = size} {l = l} t e = subst (λ (n : ℕ). drop n l ≡ replicate (size - n) empty) e t.rest ∙ ap (λ (n : ℕ). replicate n empty) (sub-zero size)

module _ {s : Store} {area : Bytes} (f : FreshStore s area) where
  load_fresh : s.load ≡ record { lines = 0; locks = 0; defaults = 0; bytes = 0 }
  unfolding load_of sum_of fresh fresh_state
  load_fresh = f.made.built.kept.load_is ∙ ap (λ (x : State). load_of x.box) f.shown

  pub store-fresh : s ≡ record { lines = replicate 1024 no_slot; load = record { lines = 0; locks = 0; defaults = 0; bytes = 0 }; top = 0; floor = 0 }
  unfolding fresh_state
  store-fresh =
      let l = none-counts f.made.built.lines (ap (λ (x : Load). x.lines) load_fresh) in
      ap (λ (x : List Slot). store_of x s.load s.top s.floor) l
      ∙ ap (λ (x : Load). store_of (replicate 1024 no_slot) x s.top s.floor) load_fresh
      ∙ ap (λ (x : ℕ). store_of (replicate 1024 no_slot) (record { lines = 0; locks = 0; defaults = 0; bytes = 0 }) x s.floor) f.top_is
      ∙ ap (λ (x : ℕ). store_of (replicate 1024 no_slot) (record { lines = 0; locks = 0; defaults = 0; bytes = 0 }) 0 x) (ap (λ (x : State). x.floor) f.shown)

-- ---- what several calls share

-- two outcomes that keep the one promise of a changing call: the same number and holder, the same box and the same floor
pub record Alike (r : Changed) (area : Bytes) (q : Changed) (area' : Bytes) : Type 0 where
  pub answer : r.answer ≡ q.answer
  pub state : state_shown r.store area ≡ state_shown q.store area'

pub settled-once : {st : Store} {area : Bytes} {d : Done} {r q : Changed} {area₁ area₂ : Bytes} → Settled st area d r area₁ → Settled st area d q area₂ → Alike r area₁ q area₂
settled-once s t = record {
  answer = s.answer_is.case_is ∙ sym t.answer_is.case_is;
  state = ap₂ (λ (b : Box) (f : ℕ). record { box = b; floor = f }) (s.shown ∙ sym t.shown) (s.floor_is ∙ sym t.floor_is);
}

pub replaced-once : {st : Store} {area : Bytes} {e : Ended} {r q : Changed} {area₁ area₂ : Bytes} → Replaced st area e r area₁ → Replaced st area e q area₂ → Alike r area₁ q area₂
replaced-once s t = record { answer = s.answer_is.case_is ∙ sym t.answer_is.case_is; state = s.shown ∙ sym t.shown }

module _ (w : Lent) where
  pub page-same : {x : Written} {r q : Wrote} {out out' : Bytes} → WroteAs x r out → WroteAs x q out' → Same w (paged r out) (paged q out')
  page-same {r = r} {q = q} {out = out} {out' = out'} a b = same w (paged r out) (paged q out') (one_answer a b) (one-count a b) refl refl refl (one-buffer a b)

  pub changed-same : {r q : Changed} {area area' : Bytes} → Alike r area q area' → Same w (changed r area) (changed q area')
  changed-same {r = r} {q = q} {area = area} {area' = area'} a = same w (changed r area) (changed q area') a.answer refl refl refl a.state refl

-- ---- one law a call

module _ (w : Lent) where
  pub fresh-once : Once w starting
  fresh-once (started s) (started t) a b = same w (started s) (started t) refl refl refl refl (a.shown ∙ sym b.shown) refl

  pub read-once : (k : Key) (m : ℕ) → Once w (calling (Call.Read k m))
  read-once k m (seen s x) (seen t y) a b =
      let p = a.0.seen_as in
      let q = b.0.seen_as in
      let e = one-reply p q in
      same w (seen s x) (seen t y) (ap answer_of e) (a.0.count_is ∙ sym b.0.count_is) (ap row_in e) (one-row p q a.1 b.1) refl refl

  pub intent-once : (k : Key) (m : ℕ) → Once w (calling (Call.OneIntent k m))
  intent-once k m (pointed s x) (pointed t y) a b = let e = one-lock a.0 b.0 in same w (pointed s x) (pointed t y) (ap answer_of e) refl (ap lock_in e) (one-primary a.0 b.0 a.1 b.1) refl refl

  pub row-once : (s : RowSeen) → Once w (handing_row s)
  row-once s (handed x) (handed y) a b = same w (handed x) (handed y) refl refl refl (a.is ∙ sym b.is) refl refl

  pub primary-once : (p : LockSeen) → Once w (handing_primary p)
  primary-once p (handed x) (handed y) a b = same w (handed x) (handed y) refl refl refl (a.is ∙ sym b.is) refl refl

  pub page-once : (a : Bounds) (m : ℕ) (l : Limits) → Once w (calling (Call.Page a m l))
  page-once a m l (paged r x) (paged t y) p o = page-same w p o

  pub intents-once : (a : Bounds) (l : ℕ) → Once w (calling (Call.IntentPage a l))
  intents-once a l (paged r x) (paged t y) p o = page-same w p o

  pub conflicts-once : (a : Bounds) (m : ℕ) (l : Limits) → Once w (calling (Call.ConflictingIntents a m l))
  conflicts-once a m l (paged r x) (paged t y) p o = page-same w p o

  pub prewrites-once : (h : PrewriteTerms) (s : Bytes) → Once w (calling (Call.Change (Changing.Prewrite h s)))
  prewrites-once h s (changed r x) (changed t y) a b = changed-same w (settled-once a b)

  pub commits-once : (h : CommitTerms) (s : Bytes) → Once w (calling (Call.Change (Changing.Commit h s)))
  commits-once h s (changed r x) (changed t y) a b = changed-same w (settled-once a b)

  pub rollbacks-once : (txn start : ℕ) (s : Bytes) → Once w (calling (Call.Change (Changing.Rollback txn start s)))
  rollbacks-once txn start s (changed r x) (changed t y) a b = changed-same w (settled-once a b)

  pub step-once : (h : CommitTerms) (s : Bytes) → Once w (calling (Call.Change (Changing.OneStep h s)))
  step-once h s (stepped r x) (stepped t y) a b =
      let o = settled-once a.settled b.settled in
      same w (stepped r x) (stepped t y) o.answer (a.count_is ∙ sym b.count_is) refl refl o.state refl

  pub restore-once : (s : Bytes) → Once w (calling (Call.Restore s))
  restore-once s (changed r x) (changed t y) a b = changed-same w (replaced-once a b)

  pub collect-once : (f : ℕ) → Once w (calling (Call.Change (Changing.Collect f)))
  collect-once f (changed r x) (changed t y) a b = changed-same w (replaced-once a.replaced b.replaced)

  pub stats-once : Once w (calling Call.Statistics)
  stats-once (counted s) (counted t) a b = same w (counted s) (counted t) refl refl (ap chains (a ∙ sym b)) refl refl refl

  pub marks-once : Once w (calling Call.Marks)
  marks-once (marked s) (marked t) a b = same w (marked s) (marked t) refl refl (ap highest (a ∙ sym b)) refl refl refl

  pub capture-once : (table : ℕ) → Once w (calling (Call.Capture table))
  capture-once table (paged r x) (paged t y) p o = page-same w p.captured o.captured

  pub convert-once : (s : Bytes) → Once w (calling (Call.Convert s))
  convert-once s (paged r x) (paged t y) p o = page-same w p.wrote o.wrote

  pub bone-once : (r : Row) (n : ℕ) → Once w (calling (Call.Bone r n))
  bone-once r n (boned x) (boned y) a b =
      let e = a.answer_is.case_is ∙ sym b.answer_is.case_is in
      same w (boned x) (boned y) e refl (ap₂ bone_in e (a.shown_is ∙ sym b.shown_is)) refl refl refl

  pub bones-once : (r : Row) → Once w (calling (Call.Bones r))
  bones-once r (summed x) (summed y) a b =
      let e = a.answer_is.case_is ∙ sym b.answer_is.case_is in
      same w (summed x) (summed y) e refl (ap₂ bones_in e (a.shown_is ∙ sym b.shown_is)) refl refl refl

-- ---- all calls

pub one-outcome : OneOutcome
one-outcome w starting = fresh-once w
one-outcome w (calling (Call.Read key m)) = read-once w key m
one-outcome w (calling (Call.OneIntent key m)) = intent-once w key m
one-outcome w (handing_row s) = row-once w s
one-outcome w (handing_primary p) = primary-once w p
one-outcome w (calling (Call.Page a m n)) = page-once w a m n
one-outcome w (calling (Call.IntentPage a n)) = intents-once w a n
one-outcome w (calling (Call.ConflictingIntents a m n)) = conflicts-once w a m n
one-outcome w (calling (Call.Change (Changing.Prewrite h s))) = prewrites-once w h s
one-outcome w (calling (Call.Change (Changing.Commit h s))) = commits-once w h s
one-outcome w (calling (Call.Change (Changing.Rollback txn start s))) = rollbacks-once w txn start s
one-outcome w (calling (Call.Change (Changing.OneStep h s))) = step-once w h s
one-outcome w (calling (Call.Change (Changing.Collect f))) = collect-once w f
one-outcome w (calling (Call.Restore s)) = restore-once w s
one-outcome w (calling Call.Statistics) = stats-once w
one-outcome w (calling Call.Marks) = marks-once w
one-outcome w (calling (Call.Capture t)) = capture-once w t
one-outcome w (calling (Call.Convert s)) = convert-once w s
one-outcome w (calling (Call.Bone r n)) = bone-once w r n
one-outcome w (calling (Call.Bones r)) = bones-once w r

-- ---- what is open, and where

-- refused, nothing is open: store, area and buffer are those that were lent
pub one-refusal : OneRefusal
one-refusal w c g q k l n = (refusals w c g k n).left ∙ sym (refusals w c q l (λ e. n ((one-outcome w c g q k l).answer.case_is ∙ e))).left

-- "accepted and unchanged": nothing is open either, where a changing call leaves the box as it was, or a collection box and floor
still : {st r q : Store} {area area₁ area₂ : Bytes} → Untouched st area r area₁ → Untouched st area q area₂ → (r ≡ q) × (area₁ ≡ area₂)
still u v = (u.store_is ∙ sym v.store_is, u.area_is ∙ sym v.area_is)

pub still-once : {st : Store} {area : Bytes} {d : Done} {r q : Changed} {area₁ area₂ : Bytes} → Settled st area d r area₁ → Settled st area d q area₂ → d.box ≡ box_of st area → (r.store ≡ q.store) × (area₁ ≡ area₂)
still-once a b e = still (a.unchanged e) (b.unchanged e)

pub still-collected : {f : ℕ} {st : Store} {area : Bytes} {r q : Changed} {area₁ area₂ : Bytes} → CollectedAs f st area r area₁ → CollectedAs f st area q area₂ → (collect f (state_shown st area)).state ≡ state_shown st area
    → (r.store ≡ q.store) × (area₁ ≡ area₂)
still-collected a b e = still (a.unchanged e) (b.unchanged e)

-- and the tallies are never open: the box has them
pub load-once : {s t : Store} {area area' : Bytes} → Made s area → Made t area' → box_of s area ≡ box_of t area' → s.load ≡ t.load
load-once m n e = m.built.kept.load_is ∙ ap load_of e ∙ sym n.built.kept.load_is
