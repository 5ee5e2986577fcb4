-- Lists for an image's places: those of the sections are cut to what was found, and fresh ones of such lengths are room enough.
-- Assumes nothing.
use Prim.Native.Nat.{ℕ, ◌+◌, ◌≤◌}
use native.Mathlib.Omega.{arith}
use mathlib.Core.Path.{◌≡◌, sym}
use mathlib.Core.List.{List}
use lib.ListN.{length, take, replicate, length-replicate}
use lib.Seq.{length-take-le}
use Rattle.forms.specs.Bytes.{Bytes}
use Rattle.images.specs.declared.checks.Form.{Form}
use Rattle.images.specs.declared.sections.Sections.{Sections}
use Rattle.images.specs.Sections.{Enough, SectionsAre}
use Rattle.pairs.specs.Asks.{JudgeAsk, AlikeAsk}

module _ {form : Form} {s : Bytes} {i : Sections} {ds ls ws : List ℕ} (v : SectionsAre form s i ds ls ws) where
  pub judge-asks : (ps room : List ℕ) → length ls + length ws ≤ length ps → length ds ≤ length room → length ps ≤ length room
      → AlikeAsk form s i (take i.defaults ds) (take i.locks ls) (take i.writes ws) (take (i.locks + i.writes) ps) room
  judge-asks ps room a b c =
      let d = length-take-le i.defaults ds v.few_defaults in
      let l = length-take-le i.locks ls v.few_locks in
      let w = length-take-le i.writes ws v.few_writes in
      let m = length-take-le (i.locks + i.writes) ps (omega (arith, v.few_locks, v.few_writes)) in
      record { listed = v.listed; lines = omega arith; rows_room = omega (arith, v.few_defaults); lines_room = omega (arith, v.few_locks, v.few_writes) }

-- ---- lists of such lengths are room enough

abbrev pub blank : ℕ → List ℕ
blank n = replicate n 0

pub judge-room : (n m : ℕ) {s : Bytes} → Enough s n → n + n ≤ m → JudgeAsk s (blank n) (blank n) (blank n) (blank m) (blank m)
judge-room n m e f =
    let z : length (blank n) ≡ n = length-replicate n 0 in
    let y : length (blank m) ≡ m = length-replicate m 0 in
    let h = rw (sym z) at e in
    record { enough = record { defaults = h; locks = h; writes = h }; lines = omega arith; rows_room = omega arith; lines_room = omega arith }
