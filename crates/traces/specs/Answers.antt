-- docs/TRACE.md, "Answers": each call gives, in binary, the answer's number (1 byte), the holder's transaction (8), start (8), time to live (8)
-- and kind (1), the count (8), a 4-byte payload length, the payload. "A trace not in form gives one answer, number 6, with zeros and no payload".
-- Assumes nothing.
use Rattle.std.specs.Prelude.{ℕ, ◌≡◌, [], ◌∷◌, ◌++◌, length}
use Rattle.forms.specs.Bytes.{Bytes}
use Rattle.forms.specs.Numbers.{digits}
use Rattle.traces.specs.declared.answer.Head.{Head}
use Rattle.rules.specs.Answers.{Answer, No, Holder, number, holder}

-- number, holder, count, payload length, payload: a head of 38 bytes, and the payload
unfoldable pub answer_fields : ℕ → Holder → ℕ → Bytes → Bytes
answer_fields n h count payload =
    n ∷ (digits 8 h.txn ++ (digits 8 h.start ++ (digits 8 h.ttl ++ (h.kind ∷ (digits 8 count ++ (digits 4 (length payload) ++ payload))))))

abbrev pub answer_bytes : Answer → ℕ → Bytes → Bytes
answer_bytes a count payload = answer_fields (number a) (holder a) count payload

-- the code's numbers of an answer and of its holder
pub record HeadOf (a : Answer) (h : Head) : Type 0 where
  pub number_is : h.number ≡ number a
  pub holder_is : record { txn = h.txn; start = h.start; ttl = h.ttl; kind = h.kind } ≡ holder a

-- "number 6, with zeros and no payload"
abbrev pub not_in_form : Bytes
not_in_form = answer_bytes (No 6) 0 []
