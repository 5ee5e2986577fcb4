-- A key's records: what the walks over them find, and what sound records say of their stamps and starts.
-- Assumes nothing.
use Prim.Native.Nat.{ℕ, ◌<◌, ◌≤◌}
use native.Mathlib.Omega.{arith}
use mathlib.Core.Path.{◌≡◌, refl, ap, sym, ◌∙◌}
use mathlib.Core.Logic.{inl, inr}
use mathlib.Core.Bool.{Bool, true, false, ◌&&◌, not, true≢false, false≢true}
use mathlib.Core.List.{List, [], ◌∷◌}
use mathlib.Core.Option.{Option, none, some}
use lib.Dec.{eqb, ltb}
use borrow.Author.Tests.{eq-eqb, eqb-true, ltb-true, lt-ltb, ne_eqb, eqb-false}
use Rattle.rules.specs.Answers.{Accepted, need}
use Rattle.rules.specs.declared.records.Kind.{Kind}
use Rattle.rules.specs.declared.records.Kind.TheVariants.{Put, Delete, Rollback}
use Rattle.rules.specs.declared.records.Record.{Record}
use Rattle.rules.specs.Box.{eq_kind, insert_by, put_in}
use Rattle.rules.specs.Sound.{sound_record, kind_fits, all_sound}
use Rattle.rules.specs.Calls.{all_below, found_if, stamped_at}
use Rattle.rules.specs.Commit.{with_start}
use Rattle.rules.specs.Rollback.{rollback_records}
use Rattle.rules.specs.Restore.{all_good}
use Rattle.laws.proofs.StepLaws.{then-left, then-right, need-true, and_left, and_right, and_both}
use Rattle.laws.proofs.Sorted.{In}
use Rattle.laws.proofs.BoxOrder.{not_found}
use Rattle.laws.proofs.KeyLaws.{stamp_before}

-- ---- kinds

pub eq_kind-true : (j k : Kind) → eq_kind j k ≡ true → j ≡ k
eq_kind-true Put Put e = refl
eq_kind-true Put Delete e = cc
eq_kind-true Put Rollback e = cc
eq_kind-true Delete Put e = cc
eq_kind-true Delete Delete e = refl
eq_kind-true Delete Rollback e = cc
eq_kind-true Rollback Put e = cc
eq_kind-true Rollback Delete e = cc
eq_kind-true Rollback Rollback e = refl

-- ---- one sound record

fits_le : (kind : Kind) (start commit : ℕ) → kind_fits kind start commit ≡ true → start ≤ commit
fits_le Put start commit h = omega (arith, ltb-true start commit h)
fits_le Delete start commit h = omega (arith, ltb-true start commit h)
fits_le Rollback start commit h = omega (arith, eqb-true commit start h)

pub sound-stamp : (w : Record) → sound_record w ≡ true → w.commit ≡ w.stamp
sound-stamp w h =
    let a : eqb w.commit w.stamp && not (eqb w.start 0) ≡ true = and_left _ (kind_fits w.kind w.start w.commit) h in
    eqb-true w.commit w.stamp (and_left _ (not (eqb w.start 0)) a)

pub sound-fits : (w : Record) → sound_record w ≡ true → kind_fits w.kind w.start w.commit ≡ true
sound-fits w h = and_right (eqb w.commit w.stamp && not (eqb w.start 0)) _ h

-- a sound record starts at its stamp or before
pub sound-le : (w : Record) → sound_record w ≡ true → w.start ≤ w.stamp
sound-le w h =
    let c : w.commit ≡ w.stamp = sound-stamp w h in
    omega (arith, fits_le w.kind w.start w.commit (sound-fits w h))

-- ---- all records

pub sound-all : (ws : List Record) → all_sound ws ≡ all_good sound_record ws
unfolding all_sound all_good
sound-all [] = refl
sound-all (w ∷ ws) = ap (λ (t : Bool). sound_record w && t) (sound-all ws)

pub sound-in : (ws : List Record) (w : Record) → all_sound ws ≡ true → In w ws → sound_record w ≡ true
unfolding all_sound
sound-in (v ∷ ws) w a (inl e) = ap sound_record e ∙ and_left _ (all_sound ws) a
sound-in (v ∷ ws) w a (inr m) = sound-in ws w (and_right (sound_record v) _ a) m
sound-in [] w a x'' = elim x'' [ ]

pub in-sound : (ws : List Record) → ((w : Record) → In w ws → sound_record w ≡ true) → all_sound ws ≡ true
unfolding all_sound
in-sound [] h = refl
in-sound (w ∷ ws) h = and_both _ _ (h w (inl refl)) (in-sound ws (λ v m. h v (inr m)))

pub below_in : (s : ℕ) (ws : List Record) (w : Record) → all_below s ws ≡ true → In w ws → w.stamp < s
unfolding all_below
below_in s (v ∷ ws) w a (inl e) = ltb-true w.stamp s (ap (λ (u : Record). ltb u.stamp s) e ∙ and_left _ (all_below s ws) a)
below_in s (v ∷ ws) w a (inr m) = below_in s ws w (and_right (ltb v.stamp s) _ a) m
below_in s [] w a x'' = elim x'' [ ]

-- below a number, below any greater
pub below_more : (s c : ℕ) (ws : List Record) → s ≤ c → all_below s ws ≡ true → all_below c ws ≡ true
unfolding all_below
below_more s c [] h a = refl
below_more s c (w ∷ ws) h a =
    let l : w.stamp < s = ltb-true w.stamp s (and_left _ (all_below s ws) a) in
    and_both (ltb w.stamp c) _ (lt-ltb w.stamp c (omega arith)) (below_more s c ws h (and_right (ltb w.stamp s) _ a))

-- stamped below s: none is stamped with s
pub below-stamped : (s : ℕ) (ws : List Record) → all_below s ws ≡ true → stamped_at s ws ≡ none
unfolding all_below stamped_at found_if
below-stamped s [] a = refl
below-stamped s (w ∷ ws) a =
    let l : w.stamp < s = ltb-true w.stamp s (and_left _ (all_below s ws) a) in
    let n : eqb s w.stamp ≡ false = ne_eqb s w.stamp (λ p. omega arith) in
    rw n (below-stamped s ws (and_right (ltb w.stamp s) _ a))

-- sound records stamped below s: none starts at s
pub below-started : (s : ℕ) (ws : List Record) → all_sound ws ≡ true → all_below s ws ≡ true → with_start s ws ≡ none
unfolding all_sound all_below with_start found_if
below-started s [] h l = refl
below-started s (w ∷ ws) h l =
    let a : w.start ≤ w.stamp = sound-le w (and_left _ (all_sound ws) h) in
    let c : w.stamp < s = ltb-true w.stamp s (and_left _ (all_below s ws) l) in
    let n : eqb s w.start ≡ false = ne_eqb s w.start (λ p. omega arith) in
    rw n (below-started s ws (and_right (sound_record w) _ h) (and_right (ltb w.stamp s) _ l))

-- ---- what a lookup finds

pub started-in : (s : ℕ) (ws : List Record) (w : Record) → with_start s ws ≡ some w → In w ws × (w.start ≡ s)
unfolding with_start found_if
started-in s [] w h = absurd (true≢false (cc))
started-in s (v ∷ ws) w h = go (eqb s v.start) refl h (started-in s ws w)
  where
    go : (t : Bool) → eqb s v.start ≡ t → found_if t v (with_start s ws) ≡ some w → (with_start s ws ≡ some w → In w ws × (w.start ≡ s)) → In w (v ∷ ws) × (w.start ≡ s)
    go true e p ih =
        let q : w ≡ v = cc in
        (inl q, ap (λ (z : Record). z.start) q ∙ sym (eqb-true s v.start e))
    go false e p ih = (inr (ih p).0, (ih p).1)

pub stamped-in : (s : ℕ) (ws : List Record) (w : Record) → stamped_at s ws ≡ some w → In w ws × (w.stamp ≡ s)
unfolding stamped_at found_if
stamped-in s [] w h = absurd (true≢false (cc))
stamped-in s (v ∷ ws) w h = go (eqb s v.stamp) refl h (stamped-in s ws w)
  where
    go : (t : Bool) → eqb s v.stamp ≡ t → found_if t v (stamped_at s ws) ≡ some w → (stamped_at s ws ≡ some w → In w ws × (w.stamp ≡ s)) → In w (v ∷ ws) × (w.stamp ≡ s)
    go true e p ih =
        let q : w ≡ v = cc in
        (inl q, ap (λ (z : Record). z.stamp) q ∙ sym (eqb-true s v.stamp e))
    go false e p ih = (inr (ih p).0, (ih p).1)

-- none of this stamp: each record has another
pub stamped-none : (s : ℕ) (ws : List Record) (w : Record) → stamped_at s ws ≡ none → In w ws → w.stamp ≡ s → ⊥
unfolding stamped_at
stamped-none s (v ∷ ws) w n (inl e) q =
    let p = not_found (eqb s v.stamp) v (stamped_at s ws) n in
    eqb-false s v.stamp p.0 (sym q ∙ ap (λ (z : Record). z.stamp) e)
stamped-none s (v ∷ ws) w n (inr m) q = stamped-none s ws w (not_found (eqb s v.stamp) v (stamped_at s ws) n).1 m q
stamped-none s [] w n x3 q = elim x3 [ ]

-- a record that has come is found by its stamp
pub stamped-new : (w : Record) (ws : List Record) → stamped_at w.stamp ws ≡ none → stamped_at w.stamp (insert_by stamp_before w ws) ≡ some w
unfolding insert_by put_in stamped_at found_if
stamped-new w [] n = rw (eq-eqb w.stamp w.stamp refl)
stamped-new w (v ∷ ws) n = go (stamp_before w v) (not_found (eqb w.stamp v.stamp) v (stamped_at w.stamp ws) n) (stamped-new w ws)
  where
    go : (b : Bool) → (eqb w.stamp v.stamp ≡ false) × (stamped_at w.stamp ws ≡ none) → (stamped_at w.stamp ws ≡ none → stamped_at w.stamp (insert_by stamp_before w ws) ≡ some w)
        → stamped_at w.stamp (put_in b w v ws (insert_by stamp_before w ws)) ≡ some w
    go true p ih = rw (eq-eqb w.stamp w.stamp refl)
    go false p ih = rw p.0 (ih p.1)

-- ---- "with this start and not Rollback 8"

pub rollback-sound : (s : ℕ) (ws : List Record) → rollback_records s ws ≡ Accepted → all_sound ws ≡ true
unfolding rollback_records all_sound
rollback-sound s [] h = refl
rollback-sound s (w ∷ ws) h =
    let rest = then-right (need (sound_record w) 9) _ h in
    and_both (sound_record w) _ (need-true _ _ (then-left _ _ h)) (rollback-sound s ws (then-right (need (not (eqb s w.start && not (eq_kind w.kind Rollback))) 8) _ rest))

-- a record with this start that a rollback lets pass is a Rollback
pub rollback-kind : (s : ℕ) (ws : List Record) (w : Record) → rollback_records s ws ≡ Accepted → In w ws → w.start ≡ s → w.kind ≡ Rollback
unfolding rollback_records
rollback-kind s (v ∷ ws) w h (inl e) q =
    let t : not (eqb s v.start && not (eq_kind v.kind Rollback)) ≡ true = need-true _ _ (then-left _ _ (then-right (need (sound_record v) 9) _ h)) in
    ap (λ (z : Record). z.kind) e ∙ go v.kind (eqb s v.start) (eq-eqb s v.start (sym q ∙ ap (λ (z : Record). z.start) e)) t
  where
    go : (k : Kind) (b : Bool) → b ≡ true → not (b && not (eq_kind k Rollback)) ≡ true → k ≡ Rollback
    go k true p t = eq_kind-true k Rollback (twice (eq_kind k Rollback) t)
      where
        twice : (b : Bool) → not (not b) ≡ true → b ≡ true
        twice true h = refl
        twice false h = h
    go k false p t = absurd (false≢true p)
rollback-kind s (v ∷ ws) w h (inr m) q =
    rollback-kind s ws w (then-right (need (not (eqb s v.start && not (eq_kind v.kind Rollback))) 8) _ (then-right (need (sound_record v) 9) _ h)) m q
rollback-kind s [] w h x3 q = elim x3 [ ]

-- so where no record has this stamp, none has this start
pub rollback-started : (s : ℕ) (ws : List Record) → rollback_records s ws ≡ Accepted → stamped_at s ws ≡ none → with_start s ws ≡ none
rollback-started s ws h n = go (with_start s ws) refl
  where
    go : (o : Option Record) → with_start s ws ≡ o → o ≡ none
    go none e = refl
    go (some w) e =
        let m = started-in s ws w e in
        let k : w.kind ≡ Rollback = rollback-kind s ws w h m.0 m.1 in
        let d : sound_record w ≡ true = sound-in ws w (rollback-sound s ws h) m.0 in
        let f : eqb w.commit w.start ≡ true = rw k at (sound-fits w d) in
        absurd (stamped-none s ws w n m.0 (sym (sound-stamp w d) ∙ eqb-true _ _ f ∙ m.1))
