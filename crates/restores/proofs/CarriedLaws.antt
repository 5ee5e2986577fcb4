-- The lines of an accepted image carry its defaults and no other; its box is sound and in order; and the bytes that its lines take.
-- Assumes nothing.
use Prim.Native.Nat.{ℕ, ◌+◌, ◌*◌, ◌≤◌}
use native.Mathlib.Omega.{arith}
use mathlib.Core.Path.{◌≡◌, refl, sym, ap, ap₂, ◌∙◌, subst}
use mathlib.Core.Logic.{◌⊎◌, inl, inr}
use mathlib.Core.Bool.{Bool, true, false, not, ◌||◌, false≢true}
use mathlib.Core.List.{List, [], ◌∷◌, map, map-id}
use mathlib.Core.Option.{Option, none, some}
use lib.ListN.{length}
use borrow.Author.Tests.{eqb-true}
use Rattle.forms.specs.Bytes.{eq_bytes}
use Rattle.forms.specs.Key.{Key, key_form}
use Rattle.forms.specs.Row.{Row}
use Rattle.forms.specs.Readers.{is_some}
use Rattle.forms.proofs.Orders.{eq_bytes-true}
use Rattle.rules.specs.declared.records.Kind.{Kind}
use Rattle.rules.specs.declared.records.Kind.TheVariants.{Put, Delete, Rollback}
use Rattle.rules.specs.declared.room.Load.{Load}
use Rattle.rules.specs.Box as box
use Rattle.rules.specs.Box.{Line, Standing, Finished, KeyLine, Default, line_is, at_pair, row_of, add_row, before, row_before, ordered}
use Rattle.rules.specs.Room.{sum_of, load_of, one_lock, lock_count, line_bytes, bytes_of_lines, bytes_of_defaults}
use Rattle.rules.specs.Image.{Image}
use Rattle.rules.specs.Restore.{all_good, none_like, no_second, good_default, good_lock, good_write, kind_has_default, image_lines, like_line, points_to, pointed_to, good_image, healthy_image, box_of}
use Rattle.laws.proofs.StepLaws.{passed, and_left, and_right, and_both}
use Rattle.laws.proofs.Sorted.{In, sum-insert, insert-in, in_insert, good-weaken, ordered-first, ordered-rest, after-in}
use Rattle.laws.proofs.BoxOrder.{row_before-apart', order-defaults, same-defaults}
use Rattle.laws.proofs.KeyLaws.{pair-refl}
use Rattle.laws.proofs.RecordLaws.{eq_kind-true}
use Rattle.laws.proofs.ImageBoxLaws.{good-image, healthy-image, good-lines, box_of-order}
use Rattle.store.specs.View.{carries, add_if, stored}
use Rattle.store.specs.Made.{good_line, good_row, Tallied}
use Rattle.store.proofs.MemberLaws.{row-found}
use Rattle.store.proofs.KeySoundLaws.{good-in}
use Rattle.store.proofs.StoredLaws.{pair-sym, once-insert, stored-order}
use Rattle.orders.specs.Sorts.{sorted}
use Rattle.pairs.proofs.SortedLaws.{sorted-good, none-good}
use Rattle.pairs.proofs.SortedPlaceLaws.{rows-sorted, lines-sorted}
use Rattle.pairs.proofs.EntryPairLaws as pairs
use Rattle.pairs.proofs.EntryPairLaws.{any-sorted, good-same, line_has, points, lines-have}
use Rattle.restores.specs.Rows.{or_none, row_for}
use Rattle.restores.specs.Fills.{Laid, default_for, laid, row_bytes, tail_bytes, size_of}

-- ---- defaults in order, and lines that match them

row-in : (d : Default) (ds : List Default) → ordered row_before ds ≡ true → In d ds → row_of d.key d.start ds ≡ some d.row
unfolding row_of add_row
row-in d (x ∷ xs) o (inl q) = ap (λ (y : Default). row_of y.key y.start (x ∷ xs)) q ∙ ap (λ (t : Bool). add_row t x.row (row_of x.key x.start xs)) (pair-refl x) ∙ ap (λ (y : Default). some y.row) (sym q)
row-in d (x ∷ xs) o (inr m) = rw (row_before-apart' x d (after-in row_before x xs d (ordered-first row_before x xs o) m)) (row-in d xs (ordered-rest row_before x xs o) m)
row-in d [] o x'' = elim x'' [ ]

module _ (ds : List Default) (o : ordered row_before ds ≡ true) where
  abbrev told : KeyLine → Option Default
  told e = (laid ds e).default

  given_out : (kind : Kind) (k : Key) (n : ℕ) (d : Default) (v : List Default) → kind_has_default kind (is_some (row_of k n ds)) ≡ true → In d (add_if (default_for ds kind k n) v) → (In d v → In d ds) → In d ds
  unfolding add_if
  given_out Put k n d v h m ih = go (row_of k n ds) refl h (insert-in row_before (record { key = k; start = n; row = or_none (row_of k n ds) }) v d m)
    where
      go : (p : Option Row) → row_of k n ds ≡ p → is_some p ≡ true → (d ≡ record { key = k; start = n; row = or_none p }) ⊎ In d v → In d ds
      go none e h x = absurd (false≢true h)
      go (some r) e h (inl q) = subst (λ (y : Default). In y ds) (sym q) (row-found k n ds r e)
      go (some r) e h (inr m) = ih m
  given_out Delete k n d v h m ih = ih m
  given_out Rollback k n d v h m ih = ih m

  given-in : (kind : Kind) (k : Key) (n : ℕ) (d : Default) (v : List Default) → d.key ≡ k → d.start ≡ n → kind ≡ Put → In d ds → In d (add_if (default_for ds kind k n) v)
  unfolding add_if
  given-in Put k n d v p q e m =
      let r : d.row ≡ or_none (row_of k n ds) = sym (ap or_none (ap₂ (λ (j : Key) (u : ℕ). row_of j u ds) (sym p) (sym q) ∙ row-in d ds o m)) in
      in_insert row_before (record { key = k; start = n; row = or_none (row_of k n ds) }) v d (inl (λ i. record { key = p i; start = q i; row = r i }))
  given-in Delete k n d v p q e m = let z : ◌≡◌ {A = ℕ} 0 1 = cc in absurd (omega arith)
  given-in Rollback k n d v p q e m = let z : ◌≡◌ {A = ℕ} 0 1 = cc in absurd (omega arith)

  still-in : (p : Option Default) (d : Default) (v : List Default) → In d v → In d (add_if p v)
  unfolding add_if
  still-in none d v m = m
  still-in (some x) d v m = in_insert row_before x v d (inr m)

  carried-out : (es : List KeyLine) (d : Default) → all_good (line_has ds) es ≡ true → In d (stored (map told es)) → In d ds
  unfolding all_good stored
  carried-out [] d h m = absurd m
  carried-out (e ∷ es) d h m = given_out (box.kind_in e.line) e.key (box.start_of e.line) d (stored (map told es)) (and_left _ _ h) m (carried-out es d (and_right (line_has ds e) _ h))

  carried-in : (es : List KeyLine) (d : Default) → pointed_to es d ≡ true → In d ds → In d (stored (map told es))
  unfolding pointed_to stored
  carried-in [] d p m = absurd (false≢true p)
  carried-in (e ∷ es) d p m = go (points_to d e) refl p (λ r. carried-in es d r m)
    where
      go : (t : Bool) → points_to d e ≡ t → t || pointed_to es d ≡ true → (pointed_to es d ≡ true → In d (stored (map told es))) → In d (add_if (told e) (stored (map told es)))
      go true q r ih =
          let a = and_left (line_is d.key d.start e) _ q in
          given-in (box.kind_in e.line) e.key (box.start_of e.line) d (stored (map told es)) (eq_bytes-true d.key e.key (and_left _ _ a))
          (eqb-true d.start (box.start_of e.line) (and_right (eq_bytes d.key e.key) _ a)) (eq_kind-true (box.kind_in e.line) Put (and_right (line_is d.key d.start e) _ q)) m
      go false q r ih = still-in (told e) d (stored (map told es)) (ih r)

  -- each Put line has its default, each default its Put line, and no two lines are of a pair: the lines carry the defaults
  stored_is : (es : List KeyLine) → no_second like_line es ≡ true → all_good (line_has ds) es ≡ true → all_good (pointed_to es) ds ≡ true → stored (map told es) ≡ ds
  stored_is es u h p =
      same-defaults (stored (map told es)) ds
      (subst (λ (f : KeyLine → Option Default). ordered row_before (stored (map f es)) ≡ true) (λ i e. told_is e.key e.line i)
      (stored-order (λ (e : KeyLine). e) row es (ap (no_second like_line) (map-id es) ∙ u))) o
      (λ d m. carried-out es d h m) (λ d m. carried-in es d (good-in (pointed_to es) ds d m p) m)
    where
      row : KeyLine → Row
      row e = row_for (box.kind_in e.line) (row_of e.key (box.start_of e.line) ds)

      told_is : (k : Key) (x : Line) → carries (record { key = k; line = x }) (row_for (box.kind_in x) (row_of k (box.start_of x) ds)) ≡ default_for ds (box.kind_in x) k (box.start_of x)
      told_is k (Standing l) = refl
      told_is k (Finished w) = refl

-- ---- no two lines of a pair, in whatever turn they stand

once-sorted : (es : List KeyLine) → no_second like_line es ≡ true → no_second like_line (sorted before es) ≡ true
unfolding sorted no_second
once-sorted [] n = refl
once-sorted (x ∷ xs) n =
    once-insert like_line pair-sym before x (sorted before xs) (none-good like_line x (sorted before xs) ∙ sorted-good before (λ (y : KeyLine). not (like_line x y)) xs ∙ sym (none-good like_line x xs) ∙ and_left _ _ n)
    (once-sorted xs (and_right (none_like like_line x xs) _ n))

-- ---- an accepted image's box

module _ (i : Image) (g : good_image i ≡ true) (h : healthy_image i ≡ true) where
  lines_are : (box_of i).lines ≡ sorted before (image_lines i)
  unfolding box_of
  lines_are = sym (lines-sorted i.locks i.writes)

  rows_are : (box_of i).defaults ≡ sorted row_before i.defaults
  unfolding box_of
  rows_are = sym (rows-sorted i.defaults)

  every-line : (p : KeyLine → Bool) → all_good p (image_lines i) ≡ true → all_good p (box_of i).lines ≡ true
  every-line p a = ap (all_good p) lines_are ∙ sorted-good before p (image_lines i) ∙ a

  every-row : (p : Default → Bool) → all_good p i.defaults ≡ true → all_good p (box_of i).defaults ≡ true
  every-row p a = ap (all_good p) rows_are ∙ sorted-good row_before p i.defaults ∙ a

  image-once : no_second like_line (box_of i).lines ≡ true
  image-once =
      ap (no_second like_line) lines_are
      ∙ once-sorted (image_lines i) (healthy-image i h).lines_once

  pub image-good : all_good good_line (box_of i).lines ≡ true
  image-good =
      let v = good-image i g in
      every-line good_line (good-lines good_line i.locks i.writes
      (good-weaken (good_lock i.table) _ (λ x p. and_both (key_form x.key) _ (search passed) (search passed)) i.locks v.locks)
      (good-weaken (good_write i.table) _ (λ x p. and_both (key_form x.key) _ (search passed) (search passed)) i.writes v.writes))

  pub image-has : all_good (line_has (box_of i).defaults) (box_of i).lines ≡ true
  image-has =
      every-line (line_has (box_of i).defaults)
      (good-same (line_has (box_of i).defaults) (line_has i.defaults) same (image_lines i) ∙ lines-have i.defaults i.locks i.writes ∙ and_both _ _ (healthy-image i h).locks_have (good-image i g).writes-have)
    where
      same : (e : KeyLine) → line_has (box_of i).defaults e ≡ line_has i.defaults e
      same e =
          ap (kind_has_default (box.kind_in e.line))
          (ap (λ (ds : List Default). is_some (row_of e.key (box.start_of e.line) ds)) rows_are ∙ pairs.row-found _ _ (sorted row_before i.defaults) ∙ any-sorted row_before (at_pair e.key (box.start_of e.line)) i.defaults
          ∙ sym (pairs.row-found _ _ i.defaults))

  image-pointed : all_good (pointed_to (box_of i).lines) (box_of i).defaults ≡ true
  image-pointed = good-same (pointed_to (box_of i).lines) (pointed_to (image_lines i)) same (box_of i).defaults ∙ every-row (pointed_to (image_lines i)) (healthy-image i h).pointed-to
    where
      same : (d : Default) → pointed_to (box_of i).lines d ≡ pointed_to (image_lines i) d
      same d = ap (λ (es : List KeyLine). pointed_to es d) lines_are ∙ points (sorted before (image_lines i)) d ∙ any-sorted before (points_to d) (image_lines i) ∙ sym (points (image_lines i) d)

  pub image-stored : stored (map (λ (e : KeyLine). (laid (box_of i).defaults e).default) (box_of i).lines) ≡ (box_of i).defaults
  image-stored = stored_is (box_of i).defaults (order-defaults (box_of i) (box_of-order i g)) (box_of i).lines image-once image-has image-pointed

  pub image-kept : {load : Load} → load ≡ load_of (box_of i) → Tallied (box_of i) load
  image-kept e = record {
    load_is = e;
    sorted = box_of-order i g;
    good = image-good;
    rows = every-row good_row (good-weaken (good_default i.table) good_row (λ d p. search passed) i.defaults (good-image i g).defaults);
    once = image-once;
  }

-- ---- how many bytes they take

abbrev bytes_in : Option Default → ℕ
bytes_in none = 0
bytes_in (some d) = length d.key + length d.row

stored_bytes : (os : List (Option Default)) → bytes_of_defaults (stored os) ≡ sum_of bytes_in os
unfolding stored add_if sum_of
stored_bytes [] = refl
stored_bytes (none ∷ os) = omega (arith, stored_bytes os)
stored_bytes (some d ∷ os) = sum-insert row_before d (λ (d : Default). length d.key + length d.row) (stored os) ∙ ap (λ (n : ℕ). length d.key + length d.row + n) (stored_bytes os)

size-need : (k : Key) (x : Line) (p : Option Default) → length k + 8 + 8 + row_bytes p + tail_bytes x ≤ line_bytes k x + bytes_in p + 16 + 8 * one_lock x
size-need k (Standing l) none = omega arith
size-need k (Standing l) (some d) = omega arith
size-need k (Finished w) none = omega arith
size-need k (Finished w) (some d) = omega arith

sum-need : (ys : List Laid) → sum_of size_of ys ≤ bytes_of_lines (map (λ (y : Laid). y.line) ys) + sum_of bytes_in (map (λ (y : Laid). y.default) ys) + 16 * length ys + 8 * lock_count (map (λ (y : Laid). y.line) ys)
unfolding sum_of
sum-need [] = omega arith
sum-need (y ∷ ys) = omega (arith, size-need y.line.key y.line.line y.default, sum-need ys)

pub sizes-need : (ys : List Laid)
    → sum_of size_of ys ≤ bytes_of_lines (map (λ (y : Laid). y.line) ys) + bytes_of_defaults (stored (map (λ (y : Laid). y.default) ys)) + 16 * length ys + 8 * lock_count (map (λ (y : Laid). y.line) ys)
sizes-need ys = omega (arith, stored_bytes (map (λ (y : Laid). y.default) ys), sum-need ys)
