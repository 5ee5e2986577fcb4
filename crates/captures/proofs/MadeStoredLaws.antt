-- Document 02's sentence on a written image, carried to stores: of a made store, whose area holds bytes, it restores to the table's part and the
-- floor.
-- Assumes nothing.
use Prim.Native.Nat.{ℕ, ◌+◌}
use native.Mathlib.Omega.{arith}
use mathlib.Core.Path.{◌≡◌, sym, ap, ◌∙◌, subst}
use mathlib.Core.Bool.{Bool, true, false, true≢false}
use mathlib.Core.List.{List, [], ◌∷◌, map}
use lib.ListN.{length, take, drop, length-take}
use Rattle.seqs.specs.Tables.{All, shown}
use Rattle.forms.specs.Bytes.{Bytes, bytes_at, AllBytes}
use Rattle.forms.proofs.NumberLaws.{power_pos, below_word, number-below, bytes_take, bytes_drop}
use Rattle.rules.specs.Answers.{Accepted, No}
use Rattle.rules.specs.declared.records.Kind.{Kind}
use Rattle.rules.specs.declared.records.Kind.TheVariants.{Put, Delete, Rollback}
use Rattle.rules.specs.Box as box
use Rattle.rules.specs.Box.{start_of, kind_in, put_in, insert_by}
use Rattle.rules.specs.Room.{Fits, load_of, room_for}
use Rattle.rules.specs.Outcomes.{Wrote}
use Rattle.rules.specs.Calls.{State}
use Rattle.rules.specs.Restore.{restore}
use Rattle.rules.specs.Capture.{part_of, image_of, Word, LineWords, Words}
use Rattle.rules.proofs.RoomLaws.{fits_in}
use Rattle.ledger.specs.BoxImages.{Stored, TableNumber}
use Rattle.ledger.proofs.BoxImages.{capture-restores}
use Rattle.store.specs.declared.table.Line.{Line}
use Rattle.store.specs.declared.table.Line.TheVariants.{Standing, Finished}
use Rattle.store.specs.declared.table.Slot.{Slot}
use Rattle.store.specs.declared.table.Store.{Store}
use Rattle.store.specs.View.{eight_at, place_of, line_in, line_of, if_put, default_in, add_if, stored, box_of}
use Rattle.store.specs.Made.{Made}
use Rattle.store.proofs.TidyLaws.{built-tidy}
use Rattle.picks.specs.Lines.{row_at}

-- ---- bytes, and the numbers that they say

word : (area : Bytes) (at : ℕ) → AllBytes area → Word (eight_at area at)
word area at g =
    below_word (0 + length (bytes_at area at 8)) (eight_at area at) (omega (arith, length-take 8 (drop at area))) (number-below (bytes_at area at 8) 0 0 (bytes_take 8 (drop at area) (bytes_drop at area g)) (power_pos 0))

line-words : (area : Bytes) (at : ℕ) (x : Line) → AllBytes area → LineWords (line_in area at x)
line-words area at (Standing l) g = (word area at g, word area (at + 8) g, word area (at + 8 + 8 + l.rowlen) g)
line-words area at (Finished w) g = (word area at g, word area (at + 8) g, word area at g)

start_word : (area : Bytes) (at : ℕ) (x : Line) → AllBytes area → Word (start_of (line_in area at x))
start_word area at (Standing l) g = word area (at + 8) g
start_word area at (Finished w) g = word area (at + 8) g

-- ---- of each line and of each row

all_map : {A B : Type 0} (f : A → B) (P : B → Type 0) → ((x : A) → P (f x)) → (xs : List A) → All P (map f xs)
unfolding All
all_map f P h [] = tt
all_map f P h (x ∷ xs) = (h x, all_map f P h xs)

all-put : {A : Type 0} (lt : A → A → Bool) (P : A → Type 0) (x : A) (l : List A) → P x → All P l → All P (insert_by lt x l)
unfolding All insert_by put_in
all-put lt P x [] h a = (h, tt)
all-put lt P x (y ∷ ys) h a = go (lt x y) (all-put lt P x ys h a.1)
  where
    go : (b : Bool) → All P (insert_by lt x ys) → All P (put_in b x y ys (insert_by lt x ys))
    go true r = (h, a)
    go false r = (a.0, r)

module _ (area : Bytes) (g : AllBytes area) where
  row_words : (xs : List Slot) → All (λ (d : box.Default). Word d.start) (stored (map (default_in area) xs))
  unfolding All stored add_if
  row_words [] = tt
  row_words (s ∷ xs) = go (kind_in (line_of area s).line) (row_words xs)
    where
      go : (k : Kind) → All (λ (d : box.Default). Word d.start) (stored (map (default_in area) xs)) → All (λ (d : box.Default). Word d.start) (add_if (if_put k (row_at area s)) (stored (map (default_in area) xs)))
      go Put a = all-put box.row_before (λ (d : box.Default). Word d.start) (row_at area s) (stored (map (default_in area) xs)) (start_word area (place_of s + s.len) s.line g) a
      go Delete a = a
      go Rollback a = a

-- ---- stores

module _ {st : Store} {area : Bytes} (m : Made st area) (g : AllBytes area) (f : Word st.floor) where
  words : Words (box_of st area)
  unfolding shown
  words = record {
    lines = all_map (line_of area) (λ (e : box.KeyLine). LineWords e.line) (λ s. line-words area (place_of s + s.len) s.line g) (take st.load.lines st.lines);
    defaults = row_words area g (take st.load.lines st.lines);
  }

  pub made-stored : Stored st.floor (box_of st area)
  unfolding room_for
  made-stored = record {
    tidy = built-tidy m.built;
    order = m.built.kept.sorted;
    room = fits_in (load_of (box_of st area)) (subst Fits m.built.kept.load_is m.fit);
    words = words;
    above = m.above;
    floor_word = f;
  }

  -- "Restoring what was written gives that table's part of the store"
  pub written-restores : (t : ℕ) → TableNumber t → {s : Bytes} → s ≡ image_of st.floor t (box_of st area)
      → (old : State) → restore s old ≡ record { answer = Accepted; state = record { box = part_of t (box_of st area); floor = st.floor } }
  written-restores t n e old = ap (λ (s : Bytes). restore s old) e ∙ capture-restores st.floor t n (box_of st area) made-stored old

-- a refusal wrote nothing
pub refused : (n : ℕ) {r : Wrote} → r ≡ record { answer = No n; count = 0 } → r.answer ≡ Accepted → ⊥
refused n {r} p e = never (sym (ap (λ (x : Wrote). x.answer) p) ∙ e)
  where
    never : No n ≡ Accepted → ⊥
    never q = true≢false (cc)
