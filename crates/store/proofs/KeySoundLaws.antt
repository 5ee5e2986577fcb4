-- What a store that is built keeps of a key: its lock and its records are sound, and its rows are in form. So the steps of the definitions
-- that ask for it pass: "unsound, 9", "each checked (9)", "must exist and decode (9)".
-- Assumes nothing.
use Prim.Native.Nat.{ℕ}
use mathlib.Core.Path.{◌≡◌, refl, ap, ◌∙◌}
use mathlib.Core.Logic.{inl, inr}
use mathlib.Core.Bool.{Bool, true, false}
use mathlib.Core.List.{List, [], ◌∷◌}
use mathlib.Core.Option.{some}
use Rattle.forms.specs.Bytes.{eq_bytes}
use Rattle.forms.specs.Key.{Key, key_form}
use Rattle.forms.specs.Row.{Row, row_form}
use Rattle.rules.specs.Answers.{shown}
use Rattle.rules.specs.Box as box
use Rattle.rules.specs.Sound.{sound_lock, sound_record, all_sound}
use Rattle.rules.specs.Restore.{all_good}
use Rattle.rules.specs.Read.{show_if, show_row}
use Rattle.laws.proofs.StepLaws.{and_left, and_right, and_both}
use Rattle.laws.proofs.Sorted.{In}
use Rattle.store.specs.Made.{good_line, good_row}
use Rattle.store.proofs.MemberLaws.{lock-found, row-found}

pub good-in : {A : Type 0} (p : A → Bool) (xs : List A) (x : A) → In x xs → all_good p xs ≡ true → p x ≡ true
unfolding all_good
good-in p (y ∷ ys) x (inl e) g = ap p e ∙ and_left _ _ g
good-in p (y ∷ ys) x (inr n) g = good-in p ys x n (and_right (p y) _ g)
good-in {A = A} p [] x x4 g = elim x4 [ ]

pub sound-records : (k : Key) (es : List box.KeyLine) → all_good good_line es ≡ true → all_sound (box.records_of k es) ≡ true
unfolding all_good all_sound box.records_of box.add_record
sound-records k [] g = refl
sound-records k (e ∷ es) g = go (eq_bytes k e.key) e.key e.line (and_left _ _ g) (sound-records k es (and_right (good_line e) _ g))
  where
    go : (t : Bool) (j : Key) (x : box.Line) → good_line (record { key = j; line = x }) ≡ true → all_sound (box.records_of k es) ≡ true → all_sound (box.add_record t x (box.records_of k es)) ≡ true
    go true j (box.Finished w) h ih = and_both (sound_record w) _ (and_right (key_form j) _ h) ih
    go true j (box.Standing l) h ih = ih
    go false j x h ih = ih

pub sound-lock : (k : Key) (es : List box.KeyLine) (l : box.Lock) → all_good good_line es ≡ true → box.lock_of k es ≡ some l → sound_lock l ≡ true
sound-lock k es l g e = and_right (key_form k) _ (good-in good_line es (record { key = k; line = box.Standing l }) (lock-found k es l e) g)

module _ (k : Key) (s : ℕ) (ds : List box.Default) (r : Row) (g : all_good good_row ds ≡ true) (e : box.row_of k s ds ≡ some r) where
  pub row-form : row_form r ≡ true
  row-form = good-in good_row ds (record { key = k; start = s; row = r }) (row-found k s ds r e) g

  pub row-shown : show_row (box.row_of k s ds) ≡ shown r
  unfolding show_row show_if
  row-shown = rw (e, row-form)
