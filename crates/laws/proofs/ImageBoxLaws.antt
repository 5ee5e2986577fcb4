-- The box of an image: a good image's box is in order, has the image's entries and no other, and its load is theirs. So a program that puts
-- the entries in one by one, in whatever turn, and keeps the order ends with this box. Assumes nothing.
use native.Mathlib.Omega.{arith}
use mathlib.Core.Path.{◌≡◌, refl, ap, sym, ◌∙◌}
use mathlib.Core.Logic.{◌⊎◌, inl, inr}
use mathlib.Core.Bool.{Bool, true, false, ◌&&◌, not}
use mathlib.Core.List.{List, [], ◌∷◌, ◌++◌, map}
use mathlib.Core.Option.{Option, none, some}
use lib.Dec.{eqb}
use Rattle.forms.specs.Bytes.{Bytes, eq_bytes}
use Rattle.rules.specs.declared.room.Load.{Load}
use Rattle.rules.specs.Box.{KeyLine, Default, before, row_before, insert_by, insert_line, ordered, in_order}
use Rattle.rules.specs.Room.{load_of, room_for}
use Rattle.rules.specs.Page.{KeyLock}
use Rattle.rules.specs.Calls.{State}
use Rattle.rules.specs.Image.{Image, KeyRecord, image}
use Rattle.rules.specs.Restore.{all_good, none_like, no_second, good_default, good_lock, good_write, like_default, like_lock, like_write, has_default, good_image, image_lines, lock_has_default, pointed_to, like_line, healthy_image, floored_image, place_defaults, place_writes, place_locks, box_of, state_of, restore_steps, restore_to, restore}
pub use Rattle.rules.specs.Restore.{lock_line, write_line}
use Rattle.laws.specs.Adds.{plus, sum_loads, lock_load, record_load, row_load, lines_load, defaults_load}
use Rattle.laws.proofs.StepLaws.{passed, and_left, and_right, and_both, not-true}
use Rattle.laws.proofs.SettleLaws.{settle_state-keeps}
use Rattle.laws.proofs.Sorted.{In, all_insert, Clear, clear-insert, ordered-insert, insert-in, in_insert, ordered_same}
use Rattle.laws.proofs.BoxOrder.{before-trans, before-irrefl, before-else, row_before-trans, row_before-irrefl, row_before-else, same_place, in_order_lem}
use Rattle.laws.proofs.LoadLaws.{load-eq, load_fields, none-plus, load-parts, lines-insert, defaults-insert}

-- ---- what a good image says

pub record GoodImage (i : Image) : Type 0 where
  pub table : not (eqb i.table 0) ≡ true
  pub defaults : all_good (good_default i.table) i.defaults ≡ true
  pub locks : all_good (good_lock i.table) i.locks ≡ true
  pub writes : all_good (good_write i.table) i.writes ≡ true
  pub defaults_once : no_second like_default i.defaults ≡ true
  pub locks_once : no_second like_lock i.locks ≡ true
  pub writes_once : no_second like_write i.writes ≡ true
  pub writes-have : all_good (has_default i.defaults) i.writes ≡ true

all_hold : (a b c d e f g h : Bool) → a && b && c && d && e && f && g && h ≡ true → (a ≡ true) × (b ≡ true) × (c ≡ true) × (d ≡ true) × (e ≡ true) × (f ≡ true) × (g ≡ true) × (h ≡ true)
all_hold a b c d e f g h t =
    let t₇ = and_left (a && b && c && d && e && f && g) h t in
    let t₆ = and_left (a && b && c && d && e && f) g t₇ in
    let t₅ = and_left (a && b && c && d && e) f t₆ in
    let t₄ = and_left (a && b && c && d) e t₅ in
    let t₃ = and_left (a && b && c) d t₄ in
    let t₂ = and_left (a && b) c t₃ in
    (and_left a b t₂, and_right a b t₂, and_right (a && b) c t₃, and_right (a && b && c) d t₄, and_right (a && b && c && d) e t₅, and_right (a && b && c && d && e) f t₆, and_right (a && b && c && d && e && f) g t₇, and_right (a && b && c && d && e && f && g) h t)

pub good-image : (i : Image) → good_image i ≡ true → GoodImage i
unfolding good_image
good-image i g =
    let v =
    all_hold (not (eqb i.table 0)) (all_good (good_default i.table) i.defaults) (all_good (good_lock i.table) i.locks) (all_good (good_write i.table) i.writes)
    (no_second like_default i.defaults) (no_second like_lock i.locks) (no_second like_write i.writes) (all_good (has_default i.defaults) i.writes) g in
    record { table = v.0; defaults = v.1; locks = v.2; writes = v.3; defaults_once = v.4; locks_once = v.5; writes_once = v.6; writes-have = v.7 }

-- ---- what an image says that is not sick

pub record HealthyImage (i : Image) : Type 0 where
  pub locks_have : all_good (lock_has_default i.defaults) i.locks ≡ true
  pub pointed-to : all_good (pointed_to (image_lines i)) i.defaults ≡ true
  pub lines_once : no_second like_line (image_lines i) ≡ true

pub healthy-image : (i : Image) → healthy_image i ≡ true → HealthyImage i
unfolding healthy_image
healthy-image i v = record { locks_have = search passed; pointed-to = search passed; lines_once = search passed }

-- ---- what holds of the state before, and of every image's state that may replace it, holds after

pub restore-keeps : (P : State → Type 0) (s : Bytes) (st : State) → P st
    → ((i : Image) → image s ≡ some i → good_image i ≡ true → healthy_image i ≡ true → floored_image i ≡ true → room_for (box_of i) ≡ true → P (state_of i)) → P (restore s st).state
unfolding restore restore_to restore_steps
restore-keeps P s st v h = go (image s) h
  where
    go : (o : Option Image) → ((i : Image) → o ≡ some i → good_image i ≡ true → healthy_image i ≡ true → floored_image i ≡ true → room_for (box_of i) ≡ true → P (state_of i)) → P (restore_to o st).state
    go none h = v
    go (some i) h = settle_state-keeps P _ (state_of i) st v (λ p. h i refl (search passed) (search passed) (search passed) (search passed))

-- ---- no second of its like: each comes where it has no equal

module _ (d : Default) where
  clear-defaults : (ds : List Default) → none_like like_default d ds ≡ true → Clear row_before d (place_defaults ds)
  unfolding none_like place_defaults
  clear-defaults [] n = tt
  clear-defaults (e ∷ es) n =
      clear-insert row_before d e (place_defaults es) (row_before-else d e (not-true _ (and_left _ _ n))) (clear-defaults es (and_right (not (like_default d e)) _ n))

module _ (x : KeyRecord) where
  clear-writes : (ws : List KeyRecord) → none_like like_write x ws ≡ true → Clear before (write_line x) (place_writes ws)
  unfolding none_like place_writes same_place
  clear-writes [] n = tt
  clear-writes (y ∷ ys) n =
      clear-insert before (write_line x) (write_line y) (place_writes ys) (before-else (write_line x) (write_line y) (not-true _ (and_left _ _ n))) (clear-writes ys (and_right (not (like_write x y)) _ n))

module _ (x : KeyLock) where
  -- a lock and a record never share a place
  clear-over : (ws : List KeyRecord) → Clear before (lock_line x) (place_writes ws)
  unfolding place_writes same_place
  clear-over [] = tt
  clear-over (y ∷ ys) = clear-insert before (lock_line x) (write_line y) (place_writes ys) (before-else (lock_line x) (write_line y) (apart (eq_bytes x.key y.key))) (clear-over ys)
    where
      apart : (t : Bool) → t && false ≡ false
      apart true = refl
      apart false = refl

  clear-locks : (ls : List KeyLock) (ws : List KeyRecord) → none_like like_lock x ls ≡ true → Clear before (lock_line x) (place_locks ls (place_writes ws))
  unfolding none_like place_locks same_place
  clear-locks [] ws n = clear-over ws
  clear-locks (y ∷ ys) ws n =
      clear-insert before (lock_line x) (lock_line y) (place_locks ys (place_writes ws)) (before-else (lock_line x) (lock_line y) (apart (eq_bytes x.key y.key) (not-true _ (and_left _ _ n))))
      (clear-locks ys ws (and_right (not (like_lock x y)) _ n))
    where
      apart : (t : Bool) → t ≡ false → t && true ≡ false
      apart t e = rw e

-- ---- the box's lines are the image's in one list, each at its place, and so are its defaults

unfoldable pub placed : {A : Type 0} → (A → A → Bool) → List A → List A
placed lt [] = []
placed lt (x ∷ xs) = insert_by lt x (placed lt xs)

pub placed-good : {A : Type 0} (lt : A → A → Bool) (p : A → Bool) (xs : List A) → all_good p xs ≡ true → all_good p (placed lt xs) ≡ true
unfolding placed all_good
placed-good lt p [] a = refl
placed-good lt p (x ∷ xs) a = all_insert lt x p (placed lt xs) (and_left _ _ a) (placed-good lt p xs (and_right (p x) _ a))

pub placed-defaults : (ds : List Default) → place_defaults ds ≡ placed row_before ds
unfolding place_defaults placed
placed-defaults [] = refl
placed-defaults (d ∷ ds) = ap (insert_by row_before d) (placed-defaults ds)

pub placed-lines : (ls : List KeyLock) (ws : List KeyRecord) → place_locks ls (place_writes ws) ≡ placed before (map lock_line ls ++ map write_line ws)
unfolding place_locks place_writes placed
placed-lines [] [] = refl
placed-lines [] (y ∷ ys) = ap (insert_by before (write_line y)) (placed-lines [] ys)
placed-lines (x ∷ xs) ws = ap (insert_by before (lock_line x)) (placed-lines xs ws)

-- what holds of each lock and each write holds of each line
pub good-lines : (p : KeyLine → Bool) (ls : List KeyLock) (ws : List KeyRecord) → all_good (λ (x : KeyLock). p (lock_line x)) ls ≡ true → all_good (λ (x : KeyRecord). p (write_line x)) ws ≡ true
    → all_good p (map lock_line ls ++ map write_line ws) ≡ true
unfolding all_good
good-lines p [] [] a c = refl
good-lines p [] (y ∷ ys) a c = and_both (p (write_line y)) _ (and_left _ _ c) (good-lines p [] ys a (and_right (p (write_line y)) _ c))
good-lines p (x ∷ xs) ws a c = and_both (p (lock_line x)) _ (and_left _ _ a) (good-lines p xs ws (and_right (p (lock_line x)) _ a) c)

-- ---- the order

order-place_defaults : (ds : List Default) → no_second like_default ds ≡ true → ordered row_before (place_defaults ds) ≡ true
unfolding no_second place_defaults ordered
order-place_defaults [] n = refl
order-place_defaults (d ∷ ds) n = ordered-insert row_before row_before-trans d (place_defaults ds) (clear-defaults d ds (and_left _ _ n)) (order-place_defaults ds (and_right (none_like like_default d ds) _ n))

order-place_writes : (ws : List KeyRecord) → no_second like_write ws ≡ true → ordered before (place_writes ws) ≡ true
unfolding no_second place_writes ordered
order-place_writes [] n = refl
order-place_writes (x ∷ xs) n = ordered-insert before before-trans (write_line x) (place_writes xs) (clear-writes x xs (and_left _ _ n)) (order-place_writes xs (and_right (none_like like_write x xs) _ n))

order-place_locks : (ls : List KeyLock) (ws : List KeyRecord) → no_second like_lock ls ≡ true → no_second like_write ws ≡ true → ordered before (place_locks ls (place_writes ws)) ≡ true
unfolding no_second place_locks
order-place_locks [] ws n m = order-place_writes ws m
order-place_locks (x ∷ xs) ws n m =
    ordered-insert before before-trans (lock_line x) (place_locks xs (place_writes ws)) (clear-locks x xs ws (and_left _ _ n)) (order-place_locks xs ws (and_right (none_like like_lock x xs) _ n) m)

pub box_of-order : (i : Image) → good_image i ≡ true → in_order (box_of i) ≡ true
unfolding box_of
box_of-order i g =
    let v = good-image i g in
    in_order_lem _ _ (order-place_locks i.locks i.writes v.locks_once v.writes_once) (order-place_defaults i.defaults v.defaults_once)

-- ---- the entries

either : {A B C D : Type 0} → (A → C) → (B → D) → A ⊎ B → C ⊎ D
either f g (inl a) = inl (f a)
either f g (inr b) = inr (g b)

pub defaults-in : (ds : List Default) (d : Default) → In d (place_defaults ds) → In d ds
unfolding place_defaults
defaults-in [] d m = m
defaults-in (e ∷ es) d m = either (λ q. q) (defaults-in es d) (insert-in row_before e (place_defaults es) d m)

pub in-defaults : (ds : List Default) (d : Default) → In d ds → In d (place_defaults ds)
unfolding place_defaults
in-defaults [] d m = m
in-defaults (e ∷ es) d m = in_insert row_before e (place_defaults es) d (either (λ q. q) (in-defaults es d) m)

writes-in : (ws : List KeyRecord) (e : KeyLine) → In e (place_writes ws) → In e (map write_line ws)
unfolding place_writes
writes-in [] e m = m
writes-in (x ∷ xs) e m = either (λ q. q) (writes-in xs e) (insert-in before (write_line x) (place_writes xs) e m)

in-writes : (ws : List KeyRecord) (e : KeyLine) → In e (map write_line ws) → In e (place_writes ws)
unfolding place_writes
in-writes [] e m = m
in-writes (x ∷ xs) e m = in_insert before (write_line x) (place_writes xs) e (either (λ q. q) (in-writes xs e) m)

step-out : (A B C D : Type 0) → A ⊎ D → (D → B ⊎ C) → (A ⊎ B) ⊎ C
step-out A B C D (inl a) f = inl (inl a)
step-out A B C D (inr d) f = go (f d)
  where
    go : B ⊎ C → (A ⊎ B) ⊎ C
    go (inl b) = inl (inr b)
    go (inr c) = inr c

-- a line of the image's box is one of its locks or writes
pub lines-in : (ls : List KeyLock) (ws : List KeyRecord) (e : KeyLine) → In e (place_locks ls (place_writes ws)) → In e (map lock_line ls) ⊎ In e (map write_line ws)
unfolding place_locks
lines-in [] ws e m = inr (writes-in ws e m)
lines-in (x ∷ xs) ws e m =
    step-out (e ≡ lock_line x) (In e (map lock_line xs)) (In e (map write_line ws)) (In e (place_locks xs (place_writes ws))) (insert-in before (lock_line x) (place_locks xs (place_writes ws)) e m) (lines-in xs ws e)

pub in_lines : (ls : List KeyLock) (ws : List KeyRecord) (e : KeyLine) → In e (map lock_line ls) ⊎ In e (map write_line ws) → In e (place_locks ls (place_writes ws))
unfolding place_locks
in_lines [] ws e (inl m) = absurd m
in_lines [] ws e (inr m) = in-writes ws e m
in_lines (x ∷ xs) ws e (inl (inl q)) = in_insert before (lock_line x) (place_locks xs (place_writes ws)) e (inl q)
in_lines (x ∷ xs) ws e (inl (inr m)) = in_insert before (lock_line x) (place_locks xs (place_writes ws)) e (inr (in_lines xs ws e (inl m)))
in_lines (x ∷ xs) ws e (inr m) = in_insert before (lock_line x) (place_locks xs (place_writes ws)) e (inr (in_lines xs ws e (inr m)))

-- lines in order that are the image's are its box's, and so are the defaults
module _ (i : Image) (g : good_image i ≡ true) where
  pub image-lines : (es : List KeyLine) → ordered before es ≡ true → ((e : KeyLine) → In e es → In e (map lock_line i.locks) ⊎ In e (map write_line i.writes))
      → ((e : KeyLine) → In e (map lock_line i.locks) ⊎ In e (map write_line i.writes) → In e es) → es ≡ (box_of i).lines
  unfolding box_of
  image-lines es o f h =
      let v = good-image i g in
      ordered_same before before-trans before-irrefl es (place_locks i.locks (place_writes i.writes)) o (order-place_locks i.locks i.writes v.locks_once v.writes_once)
      (λ e m. in_lines i.locks i.writes e (f e m)) (λ e m. h e (lines-in i.locks i.writes e m))

  pub image-defaults : (ds : List Default) → ordered row_before ds ≡ true → ((d : Default) → In d ds → In d i.defaults) → ((d : Default) → In d i.defaults → In d ds) → ds ≡ (box_of i).defaults
  unfolding box_of
  image-defaults ds o f h =
      let v = good-image i g in
      ordered_same row_before row_before-trans row_before-irrefl ds (place_defaults i.defaults) o (order-place_defaults i.defaults v.defaults_once)
      (λ d m. in-defaults i.defaults d (f d m)) (λ d m. h d (defaults-in i.defaults d m))

-- ---- the load

abbrev pub key_lock_load : KeyLock → Load
key_lock_load x = lock_load x.key x.lock.primary

abbrev pub key_record_load : KeyRecord → Load
key_record_load x = record_load x.key

abbrev pub default_load : Default → Load
default_load d = row_load d.key d.row

load-place_defaults : (ds : List Default) → defaults_load (place_defaults ds) ≡ sum_loads default_load ds
unfolding place_defaults sum_loads Rattle.rules.specs.Room.sum_of
load-place_defaults [] = refl
load-place_defaults (d ∷ ds) = defaults-insert d (place_defaults ds) ∙ ap (plus (row_load d.key d.row)) (load-place_defaults ds)

load-place_writes : (ws : List KeyRecord) → lines_load (place_writes ws) ≡ sum_loads key_record_load ws
unfolding place_writes sum_loads Rattle.rules.specs.Room.sum_of
load-place_writes [] = refl
load-place_writes (x ∷ xs) = lines-insert (write_line x) (place_writes xs) ∙ ap (plus (key_record_load x)) (load-place_writes xs)

load-place_locks : (ls : List KeyLock) (es : List KeyLine) → lines_load (place_locks ls es) ≡ plus (sum_loads key_lock_load ls) (lines_load es)
unfolding place_locks sum_loads
load-place_locks [] es = sym (none-plus (lines_load es))
load-place_locks (x ∷ xs) es =
    let e = load_fields (lines-insert (lock_line x) (place_locks xs es)) in
    let f = load_fields (load-place_locks xs es) in
    load-eq (lines_load (insert_line (lock_line x) (place_locks xs es))) (plus (plus (key_lock_load x) (sum_loads key_lock_load xs)) (lines_load es)) (omega arith)

pub box_of-load : (i : Image) → load_of (box_of i) ≡ plus (plus (sum_loads key_lock_load i.locks) (sum_loads key_record_load i.writes)) (sum_loads default_load i.defaults)
unfolding box_of
box_of-load i =
    let p = load_fields (load-parts (place_locks i.locks (place_writes i.writes)) (place_defaults i.defaults)) in
    let l = load_fields (load-place_locks i.locks (place_writes i.writes)) in
    let w = load_fields (load-place_writes i.writes) in
    let d = load_fields (load-place_defaults i.defaults) in
    load-eq _ (plus (plus (sum_loads key_lock_load i.locks) (sum_loads key_record_load i.writes)) (sum_loads default_load i.defaults)) (omega arith)
