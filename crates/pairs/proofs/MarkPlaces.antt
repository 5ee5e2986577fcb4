-- What an entry is ordered by, told from its place: the key and the number that its section's reader finds there.
-- Assumes nothing.
use Prim.Native.Nat.{ℕ}
use mathlib.Core.Path.{◌≡◌, refl, ap}
use mathlib.Core.Bool.{Bool, true, false, false≢true}
use mathlib.Core.List.{[]}
use mathlib.Core.Option.{Option, none, some}
use lib.ListN.{drop}
use lib.Dec.{ltb}
use borrow.Author.Tests.{le-ltb, lt-ltb}
use Rattle.forms.specs.Bytes.{Bytes}
use Rattle.forms.specs.Row.{Row}
use Rattle.forms.specs.Readers.{Read, Reader, read_on, ◌>>=◌, just, piece, is_some}
use Rattle.forms.specs.Numbers.{number_of}
use Rattle.rules.specs.Box.{Line, Standing, Finished, start_of}
use Rattle.images.specs.Entries.{Raw, or_else, has_piece, has_tail, tail_from, no_end, entry_from, raw_or, raw_at}
use Rattle.images.specs.declared.entries.Section.{Section}
use Rattle.images.specs.declared.entries.Section.TheVariants.{Default, Lock, Write}
use Rattle.images.specs.Good.{fits, pass, good_from}
use Rattle.images.specs.Sections.{Stands, row_at, line_if, line_at}
use Rattle.orders.specs.Marks.{rank_of, ranked, Head, head_from, head_or, ranked_by, section_if, ranked_pair, mark_at}
use Rattle.orders.specs.declared.marks.By.TheVariants.{Rows, Pairs, Lines}

-- ---- the reader of a head against that of an entry

abbrev first : Raw → Head
first x = record { key = x.key; value = x.first }

-- an entry, where one is read, has this head
abbrev Heads : Head → Option (Read Raw) → Type 0
Heads h none = Unit {0}
Heads h (some q) = h ≡ first q.got

-- an entry is read on, and its head with it or no more
on_both : {A : Type 0} (o : Option (Read A)) (e : A → Reader Raw) (g : A → Reader Head) → ((x : A) (u : Bytes) → Heads (head_or (g x u)) (e x u)) → Heads (head_or (read_on o g)) (read_on o e)
unfolding read_on
on_both none e g h = tt
on_both (some q) e g h = h q.got q.rest

on-left : {A : Type 0} (d : Head) (o : Option (Read A)) (e : A → Reader Raw) → ((x : A) (u : Bytes) → Heads d (e x u)) → Heads d (read_on o e)
unfolding read_on
on-left d none e h = tt
on-left d (some q) e h = h q.got q.rest

heads : (section : Section) (s : Bytes) → Heads (head_or (head_from s)) (entry_from section s)
unfolding entry_from head_from ◌>>=◌ read_on just
heads section s =
    on_both (piece s) _ _
    (λ k u.
    on_both (number_of 8 u) _ _
    (λ n v.
    on-left (record { key = k; value = n }) (or_else (has_piece section) piece [] v) _
    (λ p w. on-left (record { key = k; value = n }) (or_else (has_tail section) tail_from no_end w) _ (λ t x. refl))))

-- ---- marks

pub head-is : {form : Row → Bool} {section : Section} {t : ℕ} {s : Bytes} {a b p : ℕ} → Stands form section t s a b p → head_or (head_from (drop p s)) ≡ first (raw_at section s p)
unfolding raw_at good_from pass
head-is {form} {section} {t} {s} {p = p} v = go (entry_from section (drop p s)) v.read.is (heads section (drop p s))
  where
    go : (o : Option (Read Raw)) → pass (fits form section t) o ≡ some (record { got = raw_at section s p; rest = drop v.next s }) → Heads (head_or (head_from (drop p s))) o → head_or (head_from (drop p s)) ≡ first (raw_or o)
    go none e h = absurd (false≢true (ap is_some e))
    go (some q) e h = h

pub mark-default : {form : Row → Bool} {t : ℕ} {s : Bytes} {a b p : ℕ} → Stands form Default t s a b p → mark_at Rows s p ≡ ranked (row_at s p).key false (row_at s p).start
unfolding mark_at
mark-default v = ap (ranked_by false) (head-is v)

-- of a line only lock or stamp counts
abbrev pub rank : Line → Line
rank (Standing l) = rank_of true 0
rank (Finished w) = rank_of false w.stamp

abbrev pub Marked : ℕ → Bytes → ℕ → Type 0
Marked w s p = mark_at (Lines w) s p ≡ record { key = (line_at s w p).key; line = rank (line_at s w p).line }

pub mark-lock : {form : Row → Bool} {t : ℕ} {s : Bytes} {a w p : ℕ} → Stands form Lock t s a w p → Marked w s p
unfolding mark_at
mark-lock {w = w} {p = p} v = rw (lt-ltb p w v.high) (ap (ranked_by true) (head-is v))

pub mark-write : {form : Row → Bool} {t : ℕ} {s : Bytes} {w b p : ℕ} → Stands form Write t s w b p → Marked w s p
unfolding mark_at
mark-write {w = w} {p = p} v = rw (le-ltb p w v.low) (ap (ranked_by false) (head-is v))

-- whatever stands there
pub mark-pair : (w : ℕ) (s : Bytes) (p : ℕ) → mark_at (Pairs w) s p ≡ ranked (line_at s w p).key false (start_of (line_at s w p).line)
unfolding mark_at
mark-pair w s p = go (ltb p w)
  where
    go : (b : Bool) → ranked_pair (raw_at (section_if b) s p) ≡ ranked (line_if b s p).key false (start_of (line_if b s p).line)
    go true = refl
    go false = refl
