-- Bytes that come into the area, one stretch after the other, and what stands in the end.
-- Assumes nothing.
use Prim.Native.Nat.{ℕ, ◌+◌, ◌≤◌, ◌<◌, ◌^◌}
use native.Mathlib.Omega.{arith}
use mathlib.Core.Path.{◌≡◌, sym, ap, ap₂, ◌∙◌, subst}
use lib.ListN.{length, take}
use lib.Seq.{take-take}
use Rattle.seqs.proofs.Tables.{part_in}
use Rattle.forms.specs.Bytes.{Bytes, bytes_at}
use Rattle.forms.specs.Key.{Key}
use Rattle.forms.specs.Row.{Row}
use Rattle.forms.specs.Numbers.{number, digits}
use Rattle.forms.specs.Writers.{Laid}
use Rattle.forms.proofs.NumberLaws.{number_digits}
use Rattle.forms.proofs.WriterLaws.{laid_kept, laid-stands}
use Rattle.store.specs.View.{eight_at}
use Rattle.changes.specs.Writes.{Past, Headed, LockStands, RecordStands}

-- ---- what stands below `top`

take-lower : (a b : Bytes) (n m : ℕ) → n ≤ m → take m a ≡ take m b → take n a ≡ take n b
take-lower a b n m h e = sym (take-take n m a h) ∙ ap (take n) e ∙ take-take n m b h

module _ {a b : Bytes} {top : ℕ} (p : Past a top b) where
  pub past_bytes : (i n : ℕ) → i + n ≤ top → bytes_at b i n ≡ bytes_at a i n
  past_bytes i n h = sym (part_in b i n top h) ∙ ap (λ (l : Bytes). bytes_at l i n) p.kept ∙ part_in a i n top h

  pub past-lower : {n : ℕ} → n ≤ top → Past a n b
  past-lower {n} h = record { length_is = p.length_is; kept = take-lower b a n top h p.kept }

  pub past_more : {c : Bytes} {top' : ℕ} → Past b top' c → top ≤ top' → Past a top c
  past_more {c} {top'} q h = record { length_is = q.length_is ∙ p.length_is; kept = take-lower c b top top' h q.kept ∙ p.kept }

past_of : {area src area' : Bytes} {top n r : ℕ} → Laid top n src area r area' → Past area top area'
past_of a = record { length_is = a.length_is; kept = laid_kept a }

eight-stands : {area area' : Bytes} {at r v : ℕ} → Laid at 8 (digits 8 v) area r area' → v < 256 ^ 8 → eight_at area' at ≡ v
eight-stands {v = v} a h = ap number (laid-stands a) ∙ number_digits 8 v h

-- ---- a whole line

pub headed : {area a₁ a₂ area' : Bytes} {top at next r : ℕ} {key : Key} {first start : ℕ} → Laid top (length key) key area at a₁ → Laid at 8 (digits 8 first) a₁ next a₂ → Laid next 8 (digits 8 start) a₂ r area'
    → first < 256 ^ 8 → start < 256 ^ 8 → Headed area top key first start r area'
headed {area} {a₁} {a₂} {area'} {top} {at} {next} {key = key} a b c p q =
    let late : Past a₁ at area' = past_more (past_of b) (past_of c) (omega arith) in
    record {
      past = past_more (past_of a) late (omega arith);
      key_is = past_bytes late top (length key) (omega arith) ∙ laid-stands a;
      first_is = rw (← a.next) (ap number (past_bytes (past_of c) at 8 (omega arith)) ∙ eight-stands b p);
      start_is = rw (← a.next, ← b.next) (eight-stands c q);
      next = omega arith;
    }

module _ {area a₁ : Bytes} {top : ℕ} {key : Key} {first start at : ℕ} (h : Headed area top key first start at a₁) where
  -- the head stays where more comes past it
  later : {area' : Bytes} → Past a₁ at area' → Headed area top key first start at area'
  later p = record {
    past = past_more h.past p (omega (arith, h.next));
    key_is = past_bytes p top (length key) (omega (arith, h.next)) ∙ h.key_is;
    first_is = ap number (past_bytes p (top + length key) 8 (omega (arith, h.next))) ∙ h.first_is;
    start_is = ap number (past_bytes p (top + length key + 8) 8 (omega (arith, h.next))) ∙ h.start_is;
    next = h.next;
  }

  pub record-stands : {row : Row} {n r : ℕ} {area' : Bytes} → Laid at n row a₁ r area' → RecordStands area top key first start row r area'
  record-stands {row} {n} {r} {area'} a =
      let g = later (past_of a) in
      record {
        past = g.past;
        key_is = g.key_is;
        line-is = λ kind. rw (g.first_is, g.start_is);
        row_is = ap₂ (λ (i k : ℕ). bytes_at area' i k) (sym h.next) a.size ∙ laid-stands a;
        next = omega (arith, h.next);
      }

  -- the row of a line before it
  pub record-own : (rowat rowlen : ℕ) → rowat + rowlen ≤ top → {r : ℕ} {area' : Bytes} → Laid at rowlen (bytes_at a₁ rowat rowlen) a₁ r area' → RecordStands area top key first start (bytes_at area rowat rowlen) r area'
  record-own rowat rowlen l {r} {area'} a = record-stands (subst (λ (b : Bytes). Laid at rowlen b a₁ r area') (past_bytes h.past rowat rowlen l) a)

  pub lock-stands : {row primary : Bytes} {ttl mid last r : ℕ} {a₂ a₃ area' : Bytes} → Laid at (length row) row a₁ mid a₂ → Laid mid 8 (digits 8 ttl) a₂ last a₃ → Laid last (length primary) primary a₃ r area' → ttl < 256 ^ 8
      → LockStands area top key first start row ttl primary r area'
  lock-stands {row} {primary} {ttl} {mid} {last} {r} {a₂} {a₃} {area'} a b c t =
      let late : Past a₂ mid area' = past_more (past_of b) (past_of c) (omega arith) in
      let g = later (past_more (past_of a) late (omega arith)) in
      let u : eight_at area' mid ≡ ttl = ap number (past_bytes (past_of c) mid 8 (omega arith)) ∙ eight-stands b t in
      let i : mid ≡ top + length key + 8 + 8 + length row = omega (arith, h.next) in
      let j : last ≡ top + length key + 8 + 8 + length row + 8 = omega arith in
      let u' = rw i at u in
      let s' = rw j at (laid-stands c) in
      record {
        past = g.past;
        key_is = g.key_is;
        line-is = λ kind. rw (g.first_is, g.start_is, u', s');
        row_is = rw h.next at (past_bytes late at (length row) (omega arith) ∙ laid-stands a);
        next = omega (arith, h.next);
      }
