-- Document 01, "Every form is sections in a fixed order, each after its count; nothing may follow."
-- A reader takes what it reads off the front of bytes and hands on the rest, or refuses; `do` joins readers in the order of the paper.
-- Assumes nothing.
use Rattle.std.specs.Prelude.{ℕ, zero, suc, Bool, true, false, List, [], ◌∷◌, length, take, drop, leb}
use Rattle.std.specs.Prelude as code
use Rattle.std.specs.Borrow.{Bor}
use Rattle.std.proofs.Math.Option.{Option, none, some}
use Rattle.forms.specs.Bytes.{Bytes}

infixl 20 ◌>>=◌
-- what was read, and what follows it
pub record Read (A : Type 0) : Type 0 where
  pub got : A
  pub rest : Bytes

abbrev pub Reader : Type 0 → Type 0
Reader A = Bytes → Option (Read A)

-- one reader, then another that knows what was read
unfoldable pub read_on : {A B : Type 0} → Option (Read A) → (A → Reader B) → Option (Read B)
read_on none f = none
read_on (some r) f = f r.got r.rest

unfoldable pub ◌>>=◌ : {A B : Type 0} → Reader A → (A → Reader B) → Reader B
◌>>=◌ r f s = read_on (r s) f

-- nothing is read
unfoldable pub just : {A : Type 0} → A → Reader A
just x s = some (record { got = x; rest = s })

abbrev pub when : {A : Type 0} → Bool → A → Option A
when true x = some x
when false x = none

-- bytes that may be missing, as the code is lent them
abbrev pub given : code.Option (Bor Bytes) → Option Bytes
given code.None = none
given (code.Some s) = some s.now

-- the value, where the test holds; else a refusal
unfoldable pub only : {A : Type 0} → Bool → A → Reader A
only b x s = when b (record { got = x; rest = s })

unfoldable pub byte : Reader ℕ
byte [] = none
byte (x ∷ s) = some (record { got = x; rest = s })

-- n bytes
unfoldable pub stretch : ℕ → Reader Bytes
stretch n s = when (leb n (length s)) (record { got = take n s; rest = drop n s })

-- "a length byte and its bytes"
unfoldable pub piece : Reader Bytes
piece = do
  n ← byte
  stretch n

-- a count of at most m
unfoldable pub up_to : ℕ → Reader ℕ → Reader ℕ
up_to m count = do
  n ← count
  only (leb n m) n

-- n in turn
unfoldable pub times : {A : Type 0} → ℕ → Reader A → Reader (List A)
times zero r = just []
times (suc n) r = do
  x ← r
  xs ← times n r
  just (x ∷ xs)

-- a section "after its count"
unfoldable pub section : {A : Type 0} → Reader ℕ → Reader A → Reader (List A)
section count r = do
  n ← count
  times n r

-- "nothing may follow"
unfoldable pub ended : {A : Type 0} → Option (Read A) → Option A
ended none = none
ended (some r) = if_end r.rest r.got
  where
    if_end : {A : Type 0} → Bytes → A → Option A
    if_end [] x = some x
    if_end (y ∷ s) x = none

unfoldable pub whole : {A : Type 0} → Reader A → Bytes → Option A
whole r s = ended (r s)

abbrev pub is_some : {A : Type 0} → Option A → Bool
is_some none = false
is_some (some x) = true
