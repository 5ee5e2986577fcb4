-- Document 01, "Room" and "Image": locks, records, lines, defaults, and the box that holds them. Both lists of a box stand in order:
-- lines by key, at a key its standing intent first and then its records by stamp; defaults by key and start.
-- Assumes nothing.
use Rattle.std.specs.Prelude.{ℕ, Bool, true, false, ◌&&◌, List, [], ◌∷◌, ltb, eqb}
use Rattle.std.proofs.Math.Option.{Option, none, some}
use Rattle.forms.specs.Bytes.{cmp, eq_bytes}
use Rattle.forms.specs.Key.{Key}
use Rattle.forms.specs.Row.{Row}
use Rattle.std.specs.declared.cmp.Ordering.{Ordering}
use Rattle.std.specs.declared.cmp.Ordering.TheVariants.{Less, Equal, Greater}
use Rattle.rules.specs.Answers.{Holder}
use Rattle.rules.specs.declared.records.Kind.{Kind}
use Rattle.rules.specs.declared.records.Kind.TheVariants.{Put, Delete, Rollback}
use Rattle.rules.specs.declared.records.Record.{Record}

-- "Lock: 8-byte transaction, primary length, primary, 8-byte start, 8-byte time to live, kind byte"
pub record Lock : Type 0 where
  pub txn : ℕ
  pub primary : Key
  pub start : ℕ
  pub ttl : ℕ
  pub kind : Kind

-- "A line is either a standing intent with its kind or a finished record"
pub data Line : Type 0 where
  Standing : Lock → Line
  Finished : Record → Line

pub record KeyLine : Type 0 where
  pub key : Key
  pub line : Line

-- "defaults (key length, key, 8-byte start, row length, row)"
pub record Default : Type 0 where
  pub key : Key
  pub start : ℕ
  pub row : Row

pub record Box : Type 0 where
  pub lines : List KeyLine
  pub defaults : List Default

-- "a fresh store has none"
unfoldable pub fresh : Box
fresh = record { lines = []; defaults = [] }

-- "Kinds: 1 Put, 2 Delete, 3 Rollback"
abbrev pub kind_byte : Kind → ℕ
kind_byte Put = 1
kind_byte Delete = 2
kind_byte Rollback = 3

-- "Answer 7 carries the holder's transaction and start"; 02, CR 9: "besides transaction and start, the lock's time to live and kind"
abbrev pub holder_of : Lock → Holder
holder_of l = record { txn = l.txn; start = l.start; ttl = l.ttl; kind = kind_byte l.kind }

abbrev pub eq_kind : Kind → Kind → Bool
eq_kind Put Put = true
eq_kind Put Delete = false
eq_kind Put Rollback = false
eq_kind Delete Put = false
eq_kind Delete Delete = true
eq_kind Delete Rollback = false
eq_kind Rollback Put = false
eq_kind Rollback Delete = false
eq_kind Rollback Rollback = true

-- a line's start, a standing lock's or a finished record's
abbrev pub start_of : Line → ℕ
start_of (Standing l) = l.start
start_of (Finished w) = w.start

-- a line's kind
abbrev pub kind_in : Line → Kind
kind_in (Standing l) = l.kind
kind_in (Finished w) = w.kind

-- ---- what stands at a key

unfoldable pub add_record : Bool → Line → List Record → List Record
add_record true (Finished w) ws = w ∷ ws
add_record true (Standing l) ws = ws
add_record false x ws = ws

-- the records of a key, by ascending stamp
unfoldable pub records_of : Key → List KeyLine → List Record
records_of k [] = []
records_of k (e ∷ es) = add_record (eq_bytes k e.key) e.line (records_of k es)

unfoldable pub add_lock : Bool → Line → Option Lock → Option Lock
add_lock true (Standing l) o = some l
add_lock true (Finished w) o = o
add_lock false x o = o

-- the lock of a key
unfoldable pub lock_of : Key → List KeyLine → Option Lock
lock_of k [] = none
lock_of k (e ∷ es) = add_lock (eq_bytes k e.key) e.line (lock_of k es)

-- the line is of this pair of key and start
abbrev pub line_is : Key → ℕ → KeyLine → Bool
line_is k s e = eq_bytes k e.key && eqb s (start_of e.line)

abbrev pub at_pair : Key → ℕ → Default → Bool
at_pair k s d = eq_bytes k d.key && eqb s d.start

unfoldable pub add_row : Bool → Row → Option Row → Option Row
add_row true r o = some r
add_row false r o = o

-- the row stored for a key and a start
unfoldable pub row_of : Key → ℕ → List Default → Option Row
row_of k s [] = none
row_of k s (d ∷ ds) = add_row (at_pair k s d) d.row (row_of k s ds)

-- ---- the order of a box

abbrev pub by_order : Ordering → Bool → Bool
by_order Less b = true
by_order Equal b = b
by_order Greater b = false

abbrev pub line_before : Line → Line → Bool
line_before (Standing l) (Standing m) = false
line_before (Standing l) (Finished w) = true
line_before (Finished w) (Standing l) = false
line_before (Finished v) (Finished w) = ltb v.stamp w.stamp

-- one line before another: by key, then the standing intent, then by stamp
unfoldable pub before : KeyLine → KeyLine → Bool
before a b = by_order (cmp a.key b.key) (line_before a.line b.line)

-- one default before another: by key, then by start
unfoldable pub row_before : Default → Default → Bool
row_before a b = by_order (cmp a.key b.key) (ltb a.start b.start)

-- each before all that follow it
unfoldable pub all_after : {A : Type 0} → (A → A → Bool) → A → List A → Bool
all_after lt x [] = true
all_after lt x (y ∷ ys) = lt x y && all_after lt x ys

unfoldable pub ordered : {A : Type 0} → (A → A → Bool) → List A → Bool
ordered lt [] = true
ordered lt (x ∷ xs) = all_after lt x xs && ordered lt xs

unfoldable pub in_order : Box → Bool
in_order b = ordered before b.lines && ordered row_before b.defaults

-- ---- changes

-- x goes in before the first that it is before
unfoldable pub put_in : {A : Type 0} → Bool → A → A → List A → List A → List A
put_in true x y ys rest = x ∷ y ∷ ys
put_in false x y ys rest = y ∷ rest

unfoldable pub insert_by : {A : Type 0} → (A → A → Bool) → A → List A → List A
insert_by lt x [] = x ∷ []
insert_by lt x (y ∷ ys) = put_in (lt x y) x y ys (insert_by lt x ys)

abbrev pub insert_line : KeyLine → List KeyLine → List KeyLine
insert_line e es = insert_by before e es

abbrev pub insert_default : Default → List Default → List Default
insert_default d ds = insert_by row_before d ds

unfoldable pub unless_lock : Bool → KeyLine → Line → List KeyLine → List KeyLine → List KeyLine
unless_lock true f (Standing l) es rest = es
unless_lock true f (Finished w) es rest = f ∷ rest
unless_lock false f x es rest = f ∷ rest

-- the lines without the lock of a key
unfoldable pub drop_lock : Key → List KeyLine → List KeyLine
drop_lock k [] = []
drop_lock k (f ∷ es) = unless_lock (eq_bytes k f.key) f f.line es (drop_lock k es)

unfoldable pub unless_row : Bool → Default → List Default → List Default
unless_row true d ds = ds
unless_row false d ds = d ∷ ds

-- the defaults without that of a key and a start
unfoldable pub drop_row : Key → ℕ → List Default → List Default
drop_row k s [] = []
drop_row k s (d ∷ ds) = unless_row (at_pair k s d) d (drop_row k s ds)
