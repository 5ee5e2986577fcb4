-- Answers and payloads: how long they are, and that their pieces, written one after the other, are the whole.
-- Assumes nothing.
use Prim.Native.Nat.{ℕ, ◌+◌, ◌≤◌, ◌<◌}
use native.Mathlib.Omega.{arith}
use mathlib.Core.Path.{◌≡◌, sym, ◌∙◌, ap, subst}
use mathlib.Core.Bool.{Bool, ◌&&◌}
use mathlib.Core.List.{[], ◌∷◌}
use lib.ListN.{length, length-append}
use lib.Dec.{leb}
use borrow.Author.Tests.{le-leb, lt-leb}
use Rattle.forms.specs.Bytes.{Bytes}
use Rattle.forms.specs.Numbers.{digits}
use Rattle.forms.specs.Key.{Key}
use Rattle.forms.specs.Writers.{Laid}
use Rattle.forms.proofs.NumberLaws.{length_digits}
use Rattle.forms.proofs.WriterLaws.{laid_then}
use Rattle.rules.specs.declared.records.Kind.{Kind}
use Rattle.rules.specs.Answers.{Answer, Holder, number}
use Rattle.rules.specs.Written.{lock_bytes}
use Rattle.rules.proofs.EntryWriterLaws.{lock-long}
use Rattle.traces.specs.Put.{room, length_if, put_if, Put}
use Rattle.traces.specs.Payloads.{row_payload, lock_payload}
use Rattle.traces.specs.declared.answer.Head.{Head}
use Rattle.traces.specs.Answers.{answer_fields, answer_bytes, HeadOf}
use Rattle.traces.proofs.PutLaws.{put-none, put_all}

-- ---- an answer

pub length-answer : (n : ℕ) (h : Holder) (count : ℕ) (p : Bytes) → length (answer_fields n h count p) ≡ 38 + length p
unfolding answer_fields
length-answer n h count p =
    simp length-append
    (omega (arith, length_digits 8 h.txn, length_digits 8 h.start, length_digits 8 h.ttl, length_digits 8 count, length_digits 4 (length p)))

module _ (n : ℕ) (o : Holder) (count : ℕ) (p : Bytes) {s : Bytes} where
  pub answer-short : length s < length p + 38 → Put (room (answer_fields n o count p) s) (answer_fields n o count p) s 0 s
  answer-short h = put-none (omega (arith, length-answer n o count p))

  pub answer-put : {a b c d e f g r : ℕ} {t₁ t₂ t₃ t₄ t₅ t₆ t₇ t₈ : Bytes} → Laid 0 1 (n ∷ []) s a t₁ → Laid a 8 (digits 8 o.txn) t₁ b t₂ → Laid b 8 (digits 8 o.start) t₂ c t₃
      → Laid c 8 (digits 8 o.ttl) t₃ d t₄ → Laid d 1 (o.kind ∷ []) t₄ e t₅ → Laid e 8 (digits 8 count) t₅ f t₆ → Laid f 4 (digits 4 (length p)) t₆ g t₇ → Laid g (length p) p t₇ r t₈
      → Put (room (answer_fields n o count p) s) (answer_fields n o count p) s r t₈
  unfolding answer_fields
  answer-put u₁ u₂ u₃ u₄ u₅ u₆ u₇ u₈ = put_all (laid_then u₁ (laid_then u₂ (laid_then u₃ (laid_then u₄ (laid_then u₅ (laid_then u₆ (laid_then u₇ u₈)))))))

-- what the numbers of an answer put is the answer's
pub answer-as : (a : Answer) (count : ℕ) (p : Bytes) {h : Head} {s t : Bytes} {r : ℕ} → HeadOf a h → (let b = answer_fields h.number (record { txn = h.txn; start = h.start; ttl = h.ttl; kind = h.kind }) count p in Put (room b s) b s r t)
    → Put (room (answer_bytes a count p) s) (answer_bytes a count p) s r t
answer-as a count p {h} {s = s} {t = t} {r = r} v w =
    let o : Holder = record { txn = h.txn; start = h.start; ttl = h.ttl; kind = h.kind } in
    subst (λ (b : Bytes). Put (room b s) b s r t) (ap (λ (n : ℕ). answer_fields n o count p) v.number_is ∙ ap (λ (h : Holder). answer_fields (number a) h count p) v.holder_is) w

-- ---- the payloads of a read and of one intent

pub row-long : {w s : Bytes} → length s ≤ length w → Put (room (row_payload w) s) (row_payload w) s 0 s
row-long h = put-none (omega arith)

pub length-lock : (txn : ℕ) (p : Key) (start ttl : ℕ) (k : Kind) → length (lock_payload txn p start ttl k) ≡ length p + 27
length-lock txn p start ttl k = omega (arith, lock-long (record { txn = txn; primary = p; start = start; ttl = ttl; kind = k }))

module _ (txn : ℕ) (p : Key) (start ttl : ℕ) (k : Kind) {s : Bytes} where
  pub primary-long : 255 < length p → Put (leb (length p) 255 && room (lock_payload txn p start ttl k) s) (lock_payload txn p start ttl k) s 0 s
  primary-long h = record {
    count = sym (ap (λ (f : Bool). length_if (f && room (lock_payload txn p start ttl k) s) (lock_payload txn p start ttl k)) (lt-leb _ _ h));
    is = sym (ap (λ (f : Bool). put_if (f && room (lock_payload txn p start ttl k) s) (lock_payload txn p start ttl k) s) (lt-leb _ _ h));
  }

  within : {r : ℕ} {t : Bytes} → length p ≤ 255 → Put (room (lock_payload txn p start ttl k) s) (lock_payload txn p start ttl k) s r t → Put (leb (length p) 255 && room (lock_payload txn p start ttl k) s) (lock_payload txn p start ttl k) s r t
  within h v = rw (le-leb (length p) 255 h) v

  pub lock-short : length p ≤ 255 → length s < length p + 27 → Put (leb (length p) 255 && room (lock_payload txn p start ttl k) s) (lock_payload txn p start ttl k) s 0 s
  lock-short h l = within h (put-none (omega (arith, length-lock txn p start ttl k)))

  pub lock-put : {a r : ℕ} {t u : Bytes} → length p ≤ 255 → Laid 0 1 (1 ∷ []) s a t → Laid a (length p + 26) (lock_bytes (record { txn = txn; primary = p; start = start; ttl = ttl; kind = k })) t r u
      → Put (leb (length p) 255 && room (lock_payload txn p start ttl k) s) (lock_payload txn p start ttl k) s r u
  lock-put h v w = within h (put_all (laid_then v w))
