-- Document 01, "Page", "Intent page" and "Conflicting intents": which keys, which rows or locks, and whether there are more.
-- Document 02, CR 7: "14, below the floor, for a read or row page moment below F (.. in a page after the resume key's 1 ..)".
-- Assumes nothing.
use Rattle.std.specs.Prelude.{ℕ, suc, ◌+◌, Bool, true, false, ◌&&◌, not, List, [], ◌∷◌, length, leb, ltb, eqb}
use Rattle.std.proofs.Math.Option.{Option, none, some}
use Rattle.forms.specs.Bytes.{eq_bytes, lt_bytes}
use Rattle.forms.specs.Key.{Key, key_form}
use Rattle.forms.specs.Row.{Row}
use Rattle.rules.specs.Answers.{Answer, No, ◌▸◌, need, Reply, nothing, shown, refused, if_passed}
use Rattle.rules.specs.Box.{Box, Lock, Line, Standing, Finished, KeyLine}
use Rattle.rules.specs.Sound.{sound_lock}
use Rattle.rules.specs.Read.{read, keep_if}

-- ---- what is asked

-- "start, end and resume may each be absent"
pub record Bounds : Type 0 where
  pub from : Option Key
  pub to : Option Key
  pub resume : Option Key

abbrev pub absent_or : Option Key → Bool
absent_or none = true
absent_or (some k) = key_form k

-- "scan start not below scan end"
abbrev pub both_below : Option Key → Option Key → Bool
both_below none e = true
both_below (some s) none = true
both_below (some s) (some e) = lt_bytes s e

-- "start 1; end 1; 4; resume 1"
unfoldable pub bounds_step : Bounds → Answer
bounds_step a =
    need (absent_or a.from) 1 ▸
    need (absent_or a.to) 1 ▸
    need (both_below a.from a.to) 4 ▸
    need (absent_or a.resume) 1

-- "3; start 1; end 1; 4; resume 1": the limits of rows or locks, and of bytes
unfoldable pub page_arguments : ℕ → ℕ → Bounds → Answer
page_arguments limit bytes a =
    need (not (eqb limit 0)) 3 ▸
    need (not (eqb bytes 0)) 3 ▸
    bounds_step a

-- "in a page after the resume key's 1", and so before "resume at or past end"
unfoldable pub row_page_steps : ℕ → ℕ → ℕ → ℕ → Bounds → Answer
row_page_steps floor moment limit bytes a =
    page_arguments limit bytes a ▸
    need (leb floor moment) 14

-- "Page's argument checks without byte limit"
unfoldable pub intent_arguments : ℕ → Bounds → Answer
intent_arguments limit a =
    need (not (eqb limit 0)) 3 ▸
    bounds_step a

-- "resume at or past end"
abbrev pub past_end : Option Key → Option Key → Bool
past_end none e = false
past_end (some r) none = false
past_end (some r) (some e) = not (lt_bytes r e)

-- ---- which keys

abbrev pub starts_at : Bool → Key → Key → Key → Bool
starts_at true s r k = not (lt_bytes k s)
starts_at false s r k = lt_bytes r k

-- "from start (from after resume, if start is absent or not above resume)"
abbrev pub from_on : Option Key → Option Key → Key → Bool
from_on none none k = true
from_on (some s) none k = not (lt_bytes k s)
from_on none (some r) k = lt_bytes r k
from_on (some s) (some r) k = starts_at (lt_bytes r s) s r k

-- "to before end"
abbrev pub before_end : Option Key → Key → Bool
before_end none k = true
before_end (some e) k = lt_bytes k e

abbrev pub in_bounds : Bounds → Key → Bool
in_bounds a k = from_on a.from a.resume k && before_end a.to k

abbrev pub is_first : Key → List Key → Bool
is_first k [] = false
is_first k (j ∷ js) = eq_bytes k j

-- "Keys are those of records and locks together, ascending": each once, as the lines stand in order
unfoldable pub keys_of : List KeyLine → List Key
keys_of [] = []
keys_of (e ∷ es) = keep_if (not (is_first e.key (keys_of es))) e.key (keys_of es)

unfoldable pub keys_within : Bounds → List Key → List Key
keys_within a [] = []
keys_within a (k ∷ ks) = keep_if (in_bounds a k) k (keys_within a ks)

-- "keys of locks only"
pub record KeyLock : Type 0 where
  pub key : Key
  pub lock : Lock

abbrev pub add_standing : Key → Line → List KeyLock → List KeyLock
add_standing k (Standing l) xs = record { key = k; lock = l } ∷ xs
add_standing k (Finished w) xs = xs

unfoldable pub locks_of : List KeyLine → List KeyLock
locks_of [] = []
locks_of (e ∷ es) = add_standing e.key e.line (locks_of es)

unfoldable pub locks_within : Bounds → List KeyLock → List KeyLock
locks_within a [] = []
locks_within a (x ∷ xs) = keep_if (in_bounds a x.key) x (locks_within a xs)

-- ---- the walk

pub record KeyRow : Type 0 where
  pub key : Key
  pub row : Row

-- what a page holds, and whether there are more
pub record Page (A : Type 0) : Type 0 where
  pub rows : List A
  pub more : Bool

abbrev pub empty_page : {A : Type 0} → Bool → Reply (Page A)
empty_page more = shown (record { rows = []; more = more })

unfoldable pub on_page : {A : Type 0} → A → Reply (Page A) → Reply (Page A)
on_page x nothing = nothing
on_page x (shown p) = shown (record { rows = x ∷ p.rows; more = p.more })
on_page x (refused v) = refused v

-- "10 on an empty page, else stop with more"
unfoldable pub too_large : {A : Type 0} → Bool → Reply (Page A)
too_large true = refused (No 10)
too_large false = empty_page true

-- "if the sum would pass the byte limit, .."
unfoldable pub cost_step : {A : Type 0} → Bool → Bool → A → Reply (Page A) → Reply (Page A)
cost_step true first x rest = on_page x rest
cost_step false first x rest = too_large first

-- "With the row limit reached, stop with more"
unfoldable pub limit_step : {A : Type 0} → Bool → Reply (Page A) → Reply (Page A)
limit_step true rest = empty_page true
limit_step false rest = rest

pub record Limits : Type 0 where
  pub rows : ℕ
  pub bytes : ℕ

-- one that was judged: "its refusal refuses the page even if the page is already full. With no row, go on. With the row limit reached,
-- stop with more. .. if the sum would pass the byte limit, 10 on an empty page, else stop with more". `rest` goes on from a count and a sum.
unfoldable pub on_judged : {A : Type 0} → Limits → (A → ℕ) → ℕ → ℕ → (ℕ → ℕ → Reply (Page A)) → Reply A → Reply (Page A)
on_judged m cost count sum rest nothing = rest count sum
on_judged m cost count sum rest (refused v) = refused v
on_judged m cost count sum rest (shown x) =
    let next = rest (suc count) (sum + cost x) in
    limit_step (leb m.rows count)
    (cost_step (leb (sum + cost x) m.bytes) (eqb count 0) x next)

unfoldable pub page_walk : {X A : Type 0} → (X → Reply A) → (A → ℕ) → Limits → List X → ℕ → ℕ → Reply (Page A)
page_walk judge cost m [] count sum = empty_page false
page_walk judge cost m (x ∷ xs) count sum = on_judged m cost count sum (λ c s. page_walk judge cost m xs c s) (judge x)

-- "resume at or past end, empty page without more"
unfoldable pub unless_past : {A : Type 0} → Bool → Reply (Page A) → Reply (Page A)
unless_past true p = empty_page false
unless_past false p = p

-- ---- "Page"

abbrev pub with_key : Key → Reply Row → Reply KeyRow
with_key k nothing = nothing
with_key k (shown r) = shown (record { key = k; row = r })
with_key k (refused v) = refused v

-- "Each key is read first". The page asks the floor once for all keys (`row_page_steps`), so each is read as on the floor 0: at or above the floor
-- the two are the same (`read_above` of FloorLaws).
unfoldable pub read_key : ℕ → Box → Key → Reply KeyRow
read_key moment b k = with_key k (read 0 k moment b)

-- "Cost is key plus row length"
abbrev pub row_cost : KeyRow → ℕ
row_cost x = length x.key + length x.row

unfoldable pub page : ℕ → Bounds → ℕ → Limits → Box → Reply (Page KeyRow)
page floor a moment m b =
    let walked = page_walk (read_key moment b) row_cost m (keys_within a (keys_of b.lines)) 0 0 in
    if_passed (row_page_steps floor moment m.rows m.bytes a)
    (unless_past (past_end a.resume a.to) walked)

-- ---- "Intent page": "keys of locks only, none read; per lock the lock limit, then sound (9)"

unfoldable pub sound_step : {A : Type 0} → Bool → Reply A → Reply A
sound_step true r = r
sound_step false r = refused (No 9)

unfoldable pub intent_walk : ℕ → List KeyLock → ℕ → Reply (Page KeyLock)
intent_walk limit [] count = empty_page false
intent_walk limit (x ∷ xs) count =
    let next = intent_walk limit xs (suc count) in
    limit_step (leb limit count)
    (sound_step (sound_lock x.lock) (on_page x next))

unfoldable pub intent_page : Bounds → ℕ → Box → Reply (Page KeyLock)
intent_page a limit b =
    let walked = intent_walk limit (locks_within a (locks_of b.lines)) 0 in
    if_passed (intent_arguments limit a)
    (unless_past (past_end a.resume a.to) walked)

-- ---- "Conflicting intents": "per lock sound (9), skipped if it starts above the moment, lock limit, bytes as in Page"

unfoldable pub unless_above : {A : Type 0} → Bool → A → Reply A
unless_above true x = nothing
unless_above false x = shown x

unfoldable pub conflicting : ℕ → KeyLock → Reply KeyLock
conflicting moment x = sound_step (sound_lock x.lock) (unless_above (ltb moment x.lock.start) x)

-- "Cost is key plus primary length plus 26"
abbrev pub lock_cost : KeyLock → ℕ
lock_cost x = length x.key + length x.lock.primary + 26

unfoldable pub conflict_page : Bounds → ℕ → Limits → Box → Reply (Page KeyLock)
conflict_page a moment m b =
    let walked = page_walk (conflicting moment) lock_cost m (locks_within a (locks_of b.lines)) 0 0 in
    if_passed (page_arguments m.rows m.bytes a)
    (unless_past (past_end a.resume a.to) walked)
