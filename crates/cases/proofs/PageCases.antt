-- The three pages over boxes made by hand: each step that no store can meet, alone, and the order of the steps. The walk's two stops, "With the
-- row limit reached, stop with more" and that of the byte limit, stand in an order that nothing can tell: past the first row they give the same.
-- Assumes nothing.
use Prim.Native.Nat.{ℕ}
use Prim.Native.String.{String}
use mathlib.Core.Path.{◌≡◌, refl}
use mathlib.Core.List.{List, [], ◌∷◌, ◌++◌}
use mathlib.Core.Option.{Option, none, some}
use lib.ListN.{replicate}
use Rattle.forms.specs.Bytes.{Bytes}
use Rattle.forms.specs.Key.{Key}
use Rattle.rules.specs.declared.records.Kind.TheVariants.{Put, Delete}
use Rattle.rules.specs.Box.{Box, KeyLine, Default, fresh}
use Rattle.rules.specs.Page.{Bounds, Limits}
use Rattle.rules.specs.Written.{Written, scan_page, scan_intent_page, scan_conflicting_intents}
use Rattle.rules.proofs.Worked.{Case, differing, opened, plain, saw_page, key_a, key_b, no_bounds, short}
use Rattle.cases.proofs.Untidy.{box, lock, write, stored, at, stored_at, beyond, mine, unsound}

-- a page writes into n bytes that hold 238
abbrev lent : ℕ → Bytes
lent n = replicate n 238

-- a refused page: "a refusal's counts are 0", and the buffer keeps what it held
abbrev refuses : String → (Bytes → Written) → Bytes → ℕ → Case
refuses name call buffer n = record { name = name; got = saw_page (call buffer); wanted = plain n (0 ∷ buffer) }

-- a page that fills the buffer
abbrev fills : String → (Bytes → Written) → ℕ → Bytes → Case
fills name call size page = record { name = name; got = saw_page (call (lent size)); wanted = plain 0 (size ∷ page) }

abbrev limits : ℕ → ℕ → Limits
limits rows bytes = record { rows = rows; bytes = bytes }

abbrev bounds : Option Key → Option Key → Option Key → Bounds
bounds from to resume = record { from = from; to = to; resume = resume }

-- ---- "Page": "3; start 1; end 1; 4; resume 1 .. Each key is read first .. Last, 12"

-- no bounds, at 12
abbrev page_of : ℕ → ℕ → Box → Bytes → Written
page_of rows bytes b buffer = scan_page 0 no_bounds 12 (limits rows bytes) b buffer

-- a with a row at 12, and more
abbrev shown_and : List KeyLine → List Default → Box
shown_and lines rows = box (write 12 10 12 Put ∷ lines) (stored 10 ∷ rows)

-- the page that holds a alone: 13 bytes
abbrev page_a : ℕ → Bytes
page_a more = 0 ∷ 1 ∷ 5 ∷ 0 ∷ 0 ∷ 0 ∷ 1 ∷ 0x61 ∷ 3 ∷ 0 ∷ 0 ∷ 0 ∷ more ∷ []

-- a refusal of the arguments goes before 14, before a key's, and before 12: floor 13, a unsound, no buffer
abbrev argues : String → Bounds → Limits → ℕ → Case
argues name a m n = refuses name (scan_page 13 a 12 m (box (unsound ∷ []) [])) [] n

pub page_table : List Case
page_table =
    argues "page: row limit 0, 3 goes before the start's 1" (bounds (some short) none none) (limits 0 1) 3 ∷
    argues "page: byte limit 0, 3 goes before the start's 1" (bounds (some short) none none) (limits 1 0) 3 ∷
    argues "page: the start's 1 goes before 4" (bounds (some beyond) (some key_a) none) (limits 1 1) 1 ∷
    argues "page: the end's 1 goes before 4" (bounds (some key_a) (some short) none) (limits 1 1) 1 ∷
    argues "page: 4 goes before the resume key's 1" (bounds (some key_a) (some key_a) (some short)) (limits 1 1) 4 ∷
    argues "page: the resume key's 1 goes before 14" (bounds none none (some short)) (limits 1 1) 1 ∷
    argues "page: 14 goes before 9" no_bounds (limits 1 1) 14 ∷
    -- "resume at or past end, empty page without more": no key stands there, so only 'without more' can be seen
    fills "page: resume at the end" (scan_page 0 (bounds none (some key_b) (some key_b)) 12 (limits 1 8) (shown_and [] [])) 3 (0 ∷ 0 ∷ 0 ∷ []) ∷
    fills "page: at 0 on the floor 0" (scan_page 0 no_bounds 0 (limits 1 8) (shown_and [] [])) 3 (0 ∷ 0 ∷ 0 ∷ []) ∷
    -- "Each key is read first, and its refusal refuses the page even if the page is already full"
    refuses "page: an unsound record: 9, before 12" (page_of 1 8 (box (unsound ∷ []) [])) [] 9 ∷
    refuses "page: a shown, b unsound: 9" (page_of 1 8 (shown_and (at key_b unsound ∷ []) [])) (lent 13) 9 ∷
    refuses "page: a shown, b without its row: 9" (page_of 1 8 (shown_and (at key_b (write 12 10 12 Put) ∷ []) [])) (lent 13) 9 ∷
    refuses "page: a too large, 10 goes before b's 9" (page_of 1 7 (shown_and (at key_b unsound ∷ []) [])) (lent 13) 10 ∷
    -- "With no row, go on. With the row limit reached, stop with more. .. 10 on an empty page, else stop with more. Last, 12"
    fills "page: a shown, b deleted: no more" (page_of 1 8 (shown_and (at key_b (write 12 10 12 Delete) ∷ []) [])) 13 (page_a 0) ∷
    fills "page: a shown, b past the row limit: more" (page_of 1 16 (shown_and (at key_b (write 12 10 12 Put) ∷ []) (stored_at key_b 10 ∷ []))) 13 (page_a 1) ∷
    fills "page: a shown, b past the byte limit: more" (page_of 2 15 (shown_and (at key_b (write 12 10 12 Put) ∷ []) (stored_at key_b 10 ∷ []))) 13 (page_a 1) ∷
    refuses "page: 10 goes before 12" (page_of 1 7 (shown_and [] [])) [] 10 ∷
    refuses "page: 12 bytes for 13: 12" (page_of 1 8 (shown_and [] [])) (lent 12) 12 ∷
    []

-- ---- "Intent page": "Page's argument checks without byte limit; keys of locks only, none read; per lock the lock limit, then sound (9)"

eight : ℕ → Bytes
eight n = replicate 7 0 ++ (n ∷ [])

-- the page that holds the lock of a alone: transaction 7, primary a, start 10, time to live 1, Put; 40 bytes
lock_page_a : ℕ → Bytes
unfolding eight
lock_page_a more = 0 ∷ 1 ∷ 5 ∷ key_a ++ eight 7 ++ (5 ∷ key_a) ++ eight 10 ++ eight 1 ++ (1 ∷ more ∷ [])

-- a lock without a time to live
abbrev unsound_lock : ℕ → KeyLine
unsound_lock start = lock 7 start 0 Put

abbrev lock_page : ℕ → List KeyLine → Bytes → Written
lock_page limit lines buffer = scan_intent_page no_bounds limit (box lines []) buffer

pub intent_page_table : List Case
unfolding lock_page_a
intent_page_table =
    refuses "intent page: lock limit 0, 3 goes before the start's 1" (scan_intent_page (bounds (some short) none none) 0 fresh) [] 3 ∷
    refuses "intent page: the resume key's 1 goes before 9" (scan_intent_page (bounds none none (some short)) 1 (box (unsound_lock 10 ∷ []) [])) [] 1 ∷
    fills "intent page: resume at the end" (scan_intent_page (bounds none (some key_b) (some key_b)) 1 (box (mine Put ∷ []) [])) 3 (0 ∷ 0 ∷ 0 ∷ []) ∷
    refuses "intent page: an unsound lock: 9, before 12" (lock_page 1 (unsound_lock 10 ∷ [])) [] 9 ∷
    fills "intent page: the lock limit goes before b's 9" (lock_page 1 (mine Put ∷ at key_b (unsound_lock 10) ∷ [])) 40 (lock_page_a 1) ∷
    refuses "intent page: below the limit b's 9" (lock_page 2 (mine Put ∷ at key_b (unsound_lock 10) ∷ [])) (lent 40) 9 ∷
    fills "intent page: no key is read" (lock_page 1 (mine Put ∷ unsound ∷ at key_b unsound ∷ [])) 40 (lock_page_a 0) ∷
    refuses "intent page: 39 bytes for 40: 12" (lock_page 1 (mine Put ∷ [])) (lent 39) 12 ∷
    []

-- ---- "Conflicting intents": "Page's argument checks; per lock sound (9), skipped if it starts above the moment, lock limit, bytes as in Page"

-- at 10
abbrev conflicts : ℕ → ℕ → List KeyLine → Bytes → Written
conflicts limit bytes lines buffer = scan_conflicting_intents no_bounds 10 (limits limit bytes) (box lines []) buffer

pub conflict_table : List Case
unfolding lock_page_a
conflict_table =
    refuses "conflicting intents: lock limit 0: 3" (conflicts 0 36 (unsound_lock 10 ∷ [])) [] 3 ∷
    refuses "conflicting intents: byte limit 0: 3" (conflicts 1 0 (unsound_lock 10 ∷ [])) [] 3 ∷
    refuses "conflicting intents: the resume key's 1 goes before 9" (scan_conflicting_intents (bounds none none (some short)) 10 (limits 1 1) (box (unsound_lock 10 ∷ []) [])) [] 1 ∷
    fills "conflicting intents: resume at the end" (scan_conflicting_intents (bounds none (some key_b) (some key_b)) 10 (limits 1 36) (box (mine Put ∷ []) [])) 3 (0 ∷ 0 ∷ 0 ∷ []) ∷
    refuses "conflicting intents: an unsound lock: 9, before 12" (conflicts 1 36 (unsound_lock 10 ∷ [])) [] 9 ∷
    refuses "conflicting intents: 9 goes before skipping" (conflicts 1 36 (unsound_lock 11 ∷ [])) (lent 3) 9 ∷
    refuses "conflicting intents: b's 9 goes before the lock limit" (conflicts 1 36 (mine Put ∷ at key_b (unsound_lock 10) ∷ [])) (lent 40) 9 ∷
    refuses "conflicting intents: 9 goes before 10" (conflicts 1 35 (unsound_lock 10 ∷ [])) [] 9 ∷
    fills "conflicting intents: b skipped before the lock limit: no more" (conflicts 1 36 (mine Put ∷ at key_b (lock 7 11 1 Put) ∷ [])) 40 (lock_page_a 0) ∷
    fills "conflicting intents: b past the lock limit: more" (conflicts 1 72 (mine Put ∷ at key_b (mine Put) ∷ [])) 40 (lock_page_a 1) ∷
    fills "conflicting intents: b past the byte limit: more" (conflicts 2 71 (mine Put ∷ at key_b (mine Put) ∷ [])) 40 (lock_page_a 1) ∷
    refuses "conflicting intents: 5 and 5 and 26 bytes in 35: 10, before 12" (conflicts 1 35 (mine Put ∷ [])) [] 10 ∷
    refuses "conflicting intents: 39 bytes for 40: 12" (conflicts 1 36 (mine Put ∷ [])) (lent 39) 12 ∷
    []

pub page-worked : differing page_table ≡ []
unfolding opened page_table
page-worked = refl

pub intent-page-worked : differing intent_page_table ≡ []
unfolding opened intent_page_table eight lock_page_a
intent-page-worked = refl

pub conflict-worked : differing conflict_table ≡ []
unfolding opened conflict_table eight lock_page_a
conflict-worked = refl
