-- A stretch of the area, as the code cuts it out. Assumes nothing.
use Prim.Native.Nat.{ℕ, ◌+◌, ◌-◌, ◌≤◌}
use native.Mathlib.Nat.{add-sub_cancel_left}
use mathlib.Core.Path.{◌≡◌, ap, ◌∙◌, subst}
use lib.ListN.{length, take, drop}
use Rattle.forms.specs.Bytes.{Bytes, bytes_at}
use Rattle.forms.specs.Writers.{Laid}
use Rattle.forms.proofs.WriterLaws.{bytes-long}

pub stretch : (area : Bytes) (from len : ℕ) → take (from + len - from) (drop from area) ≡ bytes_at area from len
stretch area from len = ap (λ (n : ℕ). take n (drop from area)) (add-sub_cancel_left from len)

module _ (area : Bytes) (from len : ℕ) (h : from + len ≤ length area) where
  pub stretch-long : length (take (from + len - from) (drop from area)) ≡ len
  stretch-long = ap length (stretch area from len) ∙ bytes-long area from len h

  pub stretch-laid : (f : Bytes → Bytes) (k : ℕ) {at r : ℕ} {s t : Bytes} → Laid at (length (take (from + len - from) (drop from area)) + k) (f (take (from + len - from) (drop from area))) s r t → Laid at (len + k) (f (bytes_at area from len)) s r t
  stretch-laid f k {at} {r} {s} {t} v =
      subst (λ (b : Bytes). Laid at (len + k) (f b) s r t) (stretch area from len) (subst (λ (n : ℕ). Laid at (n + k) (f (take (from + len - from) (drop from area))) s r t) stretch-long v)
