-- Document 01: "Page: 2-byte count; rows, each key length byte, key, row length byte, row; then a byte, 1 if more, else 0. Each section is
-- written into the part of the buffer that remains after the section before; bytes beyond the page keep what they held. An intent page has,
-- after each key, the lock as in the image."
-- Assumes nothing.
use Rattle.std.specs.Prelude.{ℕ, ◌≡◌, Bool, true, false, List, [], ◌∷◌, ◌++◌, length, drop, leb}
use Rattle.forms.specs.Bytes.{Bytes}
pub use Rattle.forms.specs.Bytes.{piece_bytes}
use Rattle.forms.specs.Numbers.{digits}
use Rattle.rules.specs.Outcomes.{Wrote}
use Rattle.rules.specs.Answers.{Answer, Accepted, No, Answered, Reply, nothing, shown, refused}
use Rattle.rules.specs.Box.{Box, Lock, kind_byte}
use Rattle.rules.specs.Page.{Bounds, Limits, Page, KeyRow, KeyLock, page, intent_page, conflict_page}

-- "Lock: 8-byte transaction, primary length, primary, 8-byte start, 8-byte time to live, kind byte"
unfoldable pub lock_bytes : Lock → Bytes
lock_bytes l = digits 8 l.txn ++ (piece_bytes l.primary ++ (digits 8 l.start ++ (digits 8 l.ttl ++ (kind_byte l.kind ∷ []))))

-- "each key length byte, key, row length byte, row"
unfoldable pub key_row_bytes : KeyRow → Bytes
key_row_bytes x = piece_bytes x.key ++ piece_bytes x.row

-- "after each key, the lock as in the image"
unfoldable pub key_lock_bytes : KeyLock → Bytes
key_lock_bytes x = piece_bytes x.key ++ lock_bytes x.lock

unfoldable pub all_bytes : {A : Type 0} → (A → Bytes) → List A → Bytes
all_bytes f [] = []
all_bytes f (x ∷ xs) = f x ++ all_bytes f xs

abbrev pub more_byte : Bool → ℕ
more_byte true = 1
more_byte false = 0

-- "2-byte count; rows ..; then a byte, 1 if more, else 0"
unfoldable pub page_bytes : {A : Type 0} → (A → Bytes) → Page A → Bytes
page_bytes f p = digits 2 (length p.rows) ++ (all_bytes f p.rows ++ (more_byte p.more ∷ []))

-- a call that writes a page: "A writing call also gives the bytes written; a refusal's counts are 0"
pub record Written : Type 0 where
  pub answer : Answer
  pub count : ℕ
  pub buffer : Bytes

-- what such a call promises: the answer with its holder, the count, and the whole of the buffer
pub record WroteAs (w : Written) (r : Wrote) (out : Bytes) : Type 0 where
  pub answer_is : Answered w.answer r.answer
  pub count_is : r.count ≡ w.count
  pub out_is : out ≡ w.buffer

-- "Last, 12"; "bytes beyond the page keep what they held"
unfoldable pub write_if : Bool → Bytes → Bytes → Written
write_if true bytes buffer = record { answer = Accepted; count = length bytes; buffer = bytes ++ drop (length bytes) buffer }
write_if false bytes buffer = record { answer = No 12; count = 0; buffer = buffer }

-- "A refusal changes nothing in store or buffers"; a page's reply is a page or a refusal, never nothing
unfoldable pub written : {A : Type 0} → (A → Bytes) → Reply (Page A) → Bytes → Written
written f nothing buffer = record { answer = Accepted; count = 0; buffer = buffer }
written f (refused v) buffer = record { answer = v; count = 0; buffer = buffer }
written f (shown p) buffer = write_if (leb (length (page_bytes f p)) (length buffer)) (page_bytes f p) buffer

-- the three calls, down to the whole buffer
unfoldable pub scan_page : ℕ → Bounds → ℕ → Limits → Box → Bytes → Written
scan_page floor a moment m b buffer = written key_row_bytes (page floor a moment m b) buffer

unfoldable pub scan_intent_page : Bounds → ℕ → Box → Bytes → Written
scan_intent_page a limit b buffer = written key_lock_bytes (intent_page a limit b) buffer

unfoldable pub scan_conflicting_intents : Bounds → ℕ → Limits → Box → Bytes → Written
scan_conflicting_intents a moment m b buffer = written key_lock_bytes (conflict_page a moment m b) buffer
