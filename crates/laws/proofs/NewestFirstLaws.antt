-- "from the newest at or below the moment downward": in order, the records at or below a moment are the first ones of the key's, and the walk
-- takes them from the last of those down. And when a walk over records, or a page over locks, refuses nothing. Assumes nothing.
use Prim.Native.Nat.{ℕ, ◌≤◌, ◌<◌}
use native.Mathlib.Omega.{arith}
use mathlib.Core.Path.{◌≡◌, refl, ap, sym, ◌∙◌}
use mathlib.Core.Logic.{inl, inr}
use mathlib.Core.Bool.{Bool, true, false, false≢true}
use mathlib.Core.List.{List, [], ◌∷◌, reverse, reverse_aux}
use mathlib.Core.Option.{Option, none, some}
use lib.Dec.{leb}
use lib.ListN.{take}
use borrow.Author.Tests.{le-leb, leb-true, ltb-true}
use Rattle.forms.specs.Key.{Key}
use Rattle.forms.specs.Row.{Row}
use Rattle.rules.specs.Answers.{Accepted, answer_of}
use Rattle.rules.specs.declared.records.Kind.{Kind}
use Rattle.rules.specs.declared.records.Kind.TheVariants.{Put, Delete, Rollback}
use Rattle.rules.specs.declared.records.Record.{Record}
use Rattle.rules.specs.Box.{Lock, Line, Standing, Finished, KeyLine, Default, records_of, row_of, before, ordered}
use Rattle.rules.specs.Sound.{sound_record}
use Rattle.rules.specs.Calls.{decodes}
use Rattle.rules.specs.Read.{keep_if, at_or_below, newest_first, show_if, show_row, Examined, one_record, walk, those}
use Rattle.rules.specs.Page.{Bounds, in_bounds, KeyLock, add_standing, locks_of, locks_within}
use Rattle.rules.specs.Restore.{all_good}
use Rattle.laws.specs.Places.{how_many}
use Rattle.laws.proofs.StepLaws.{and_left, and_right, and_both, by-test}
use Rattle.laws.proofs.Sorted.{In}
use Rattle.laws.proofs.KeyLaws.{stamp_before, records-ordered}
use Rattle.laws.proofs.PlaceLaws.{take-place}

-- how many records are at or below a moment
abbrev pub stamps_up_to : ℕ → List Record → ℕ
stamps_up_to m ws = how_many (λ (w : Record). leb w.stamp m) ws

below-those : (m : ℕ) (ws : List Record) → at_or_below m ws ≡ those (λ (w : Record). leb w.stamp m) ws
unfolding at_or_below those
below-those m [] = refl
below-those m (w ∷ ws) = ap (keep_if (leb w.stamp m) w) (below-those m ws)

pub up-to-first : (m : ℕ) (ws : List Record) → ordered stamp_before ws ≡ true → at_or_below m ws ≡ take (stamps_up_to m ws) ws
up-to-first m ws o = below-those m ws ∙ sym (take-place stamp_before (λ (w : Record). leb w.stamp m) down ws o)
  where
    down : (v w : Record) → stamp_before v w ≡ true → leb w.stamp m ≡ true → leb v.stamp m ≡ true
    down v w h p =
        let a : v.stamp < w.stamp = ltb-true _ _ h in
        let b : w.stamp ≤ m = leb-true _ _ p in
        le-leb v.stamp m (omega arith)

-- the key's records at or below the moment, the newest first
pub newest-is : (k : Key) (es : List KeyLine) (m : ℕ) → ordered before es ≡ true → newest_first m (records_of k es) ≡ reverse (take (stamps_up_to m (records_of k es)) (records_of k es))
unfolding newest_first
newest-is k es m o = ap reverse (up-to-first m (records_of k es) (records-ordered k es o))

-- ---- where nothing refuses

-- one record that is sound, and if a Put has a row that decodes
one-record : (t : Bool) (kind : Kind) (stored : Option Row) (older : Examined) → t ≡ true → (kind ≡ Put → decodes stored ≡ true) → answer_of older.reply ≡ Accepted
    → answer_of (one_record t kind (show_row stored) older).reply ≡ Accepted
unfolding one_record show_row show_if
one-record true Put none older s f a = absurd (false≢true (f refl))
one-record true Put (some r) older s f a = rw (f refl)
one-record true Delete stored older s f a = refl
one-record true Rollback stored older s f a = a
one-record false kind stored older s f a = absurd (false≢true s)

-- so a walk over such records refuses nothing; `later` are those above
walk-on : (k : Key) (ds : List Default) (m : ℕ) (ws later : List Record) → ((w : Record) → In w ws → (sound_record w ≡ true) × (w.kind ≡ Put → decodes (row_of k w.start ds) ≡ true))
    → answer_of (walk k ds later).reply ≡ Accepted → answer_of (walk k ds (reverse_aux (at_or_below m ws) later)).reply ≡ Accepted
unfolding walk at_or_below keep_if
walk-on k ds m [] later h a = a
walk-on k ds m (w ∷ ws) later h a =
    by-test (λ t. answer_of (walk k ds (reverse_aux (keep_if t w (at_or_below m ws)) later)).reply ≡ Accepted) (leb w.stamp m)
    (λ e. walk-on k ds m ws (w ∷ later) (λ v n. h v (inr n)) (one-record (sound_record w) w.kind _ _ (h w (inl refl)).0 (h w (inl refl)).1 a))
    (λ e. walk-on k ds m ws later (λ v n. h v (inr n)) a)

pub walk-accepts : (k : Key) (ds : List Default) (m : ℕ) (ws : List Record) → ((w : Record) → In w ws → (sound_record w ≡ true) × (w.kind ≡ Put → decodes (row_of k w.start ds) ≡ true))
    → answer_of (walk k ds (newest_first m ws)).reply ≡ Accepted
unfolding newest_first walk
walk-accepts k ds m ws h = walk-on k ds m ws [] h refl

-- what holds of each line with a lock holds of each lock of a page
pub locks-good : (p : KeyLock → Bool) (q : KeyLine → Bool) → ((k : Key) (l : Lock) → q (record { key = k; line = Standing l }) ≡ true → p (record { key = k; lock = l }) ≡ true)
    → (a : Bounds) (es : List KeyLine) → all_good q es ≡ true → all_good p (locks_within a (locks_of es)) ≡ true
unfolding locks_of locks_within keep_if all_good
locks-good p q h a [] g = refl
locks-good p q h a (e ∷ es) g = go e.line (and_left _ _ g) (locks-good p q h a es (and_right (q e) _ g))
  where
    go : (x : Line) → q (record { key = e.key; line = x }) ≡ true → all_good p (locks_within a (locks_of es)) ≡ true → all_good p (locks_within a (add_standing e.key x (locks_of es))) ≡ true
    go (Standing l) s ih =
        by-test (λ t. all_good p (keep_if t (record { key = e.key; lock = l }) (locks_within a (locks_of es))) ≡ true) (in_bounds a e.key) (λ t. and_both _ _ (h e.key l s) ih) (λ t. ih)
    go (Finished w) s ih = ih
