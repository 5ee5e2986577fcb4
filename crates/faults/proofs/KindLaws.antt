-- The lines of an image whose entries are good say their kinds.
-- Assumes nothing.
use Prim.Native.Nat.{ℕ}
use mathlib.Core.Path.{◌≡◌, refl, ap}
use mathlib.Core.Bool.{Bool, true, false, false≢true}
use mathlib.Core.List.{List, ◌++◌}
use mathlib.Core.Option.{Option, none, some}
use lib.ListN.{drop}
use borrow.Author.Tests.{le-ltb, lt-ltb}
use Rattle.seqs.specs.Tables.{All}
use Rattle.seqs.proofs.Alls.{all_append, all-weaken}
use Rattle.seqs.proofs.Tests.{and_left}
use Rattle.forms.specs.Bytes.{Bytes}
use Rattle.forms.specs.Row.{Row}
use Rattle.forms.specs.Readers.{Read, when, is_some}
use Rattle.images.specs.Entries.{Raw, entry_from, raw_or, raw_at}
use Rattle.images.specs.declared.entries.Section.TheVariants.{Lock, Write}
use Rattle.images.specs.Good.{known, fits, pass, good_from}
use Rattle.images.specs.Sections.{Stands}
use Rattle.faults.specs.Judged.{KindSaid}

passed : (b : Bool) (q : Read Raw) {x : Read Raw} → when b q ≡ some x → b ≡ true
passed true q e = refl
passed false q e = absurd (false≢true (ap is_some e))

module _ {form : Row → Bool} {t : ℕ} {s : Bytes} {a b p : ℕ} where
  known-lock : Stands form Lock t s a b p → known (raw_at Lock s p).kind ≡ true
  unfolding raw_at good_from pass fits
  known-lock v = go (entry_from Lock (drop p s)) v.read.is
    where
      go : (o : Option (Read Raw)) → pass (fits form Lock t) o ≡ some (record { got = raw_at Lock s p; rest = drop v.next s }) → known (raw_or o).kind ≡ true
      go none e = absurd (false≢true (ap is_some e))
      go (some q) e = and_left _ _ (passed (fits form Lock t q.got) q e)

  known-write : Stands form Write t s a b p → known (raw_at Write s p).kind ≡ true
  unfolding raw_at good_from pass fits
  known-write v = go (entry_from Write (drop p s)) v.read.is
    where
      go : (o : Option (Read Raw)) → pass (fits form Write t) o ≡ some (record { got = raw_at Write s p; rest = drop v.next s }) → known (raw_or o).kind ≡ true
      go none e = absurd (false≢true (ap is_some e))
      go (some q) e = and_left _ _ (passed (fits form Write t q.got) q e)

lock-said : {form : Row → Bool} {t : ℕ} {s : Bytes} {a w p : ℕ} → Stands form Lock t s a w p → KindSaid s w p
lock-said {w = w} {p = p} v = rw (lt-ltb p w v.high) (known-lock v)

write-said : {form : Row → Bool} {t : ℕ} {s : Bytes} {w b p : ℕ} → Stands form Write t s w b p → KindSaid s w p
write-said {w = w} {p = p} v = rw (le-ltb p w v.low) (known-write v)

module _ (form : Row → Bool) (t : ℕ) (s : Bytes) (a w b : ℕ) (ls ws : List ℕ) (h : All (Stands form Lock t s a w) ls) (g : All (Stands form Write t s w b) ws) where
  pub lines-said : All (KindSaid s w) (ls ++ ws)
  lines-said =
      all_append (KindSaid s w) ls ws (all-weaken (Stands form Lock t s a w) (KindSaid s w) ls (λ p v. lock-said v) h) (all-weaken (Stands form Write t s w b) (KindSaid s w) ws (λ p v. write-said v) g)
