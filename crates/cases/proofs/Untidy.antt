-- Boxes made by hand, as no store can hold them, and how a case over them is written. The definitions answer for such a box too: the cases of each
-- call (ReadCases and so on) name the step that refuses it. Numbers as in Worked: transaction 7, start 10, commit 12, primary a, time to live 1.
-- Assumes nothing.
use Prim.Native.Nat.{ℕ}
use Prim.Native.String.{String}
use mathlib.Core.List.{List, [], ◌∷◌, ◌++◌}
use Rattle.forms.specs.Bytes.{Bytes, piece_bytes}
use Rattle.forms.specs.Key.{Key}
use Rattle.rules.specs.declared.records.Kind.{Kind}
use Rattle.rules.specs.declared.records.Kind.TheVariants.{Put, Delete}
use Rattle.rules.specs.declared.terms.CommitTerms.{CommitTerms}
use Rattle.rules.specs.Box.{Box, Standing, Finished, KeyLine, Default}
use Rattle.rules.specs.Calls.{Done}
use Rattle.rules.specs.OneStep.{Counted}
use Rattle.rules.proofs.Worked.{Case, saw, flat, key_a, row}

-- ---- lines and rows

abbrev pub box : List KeyLine → List Default → Box
box lines rows = record { lines = lines; defaults = rows }

-- a lock of a: transaction, start, time to live, kind
abbrev pub lock : ℕ → ℕ → ℕ → Kind → KeyLine
lock txn start ttl kind = record { key = key_a; line = Standing (record { txn = txn; primary = key_a; start = start; ttl = ttl; kind = kind }) }

-- a record of a: stamp, start, commit, kind
abbrev pub write : ℕ → ℕ → ℕ → Kind → KeyLine
write stamp start commit kind = record { key = key_a; line = Finished (record { stamp = stamp; start = start; commit = commit; kind = kind }) }

-- a row stored at a start, of a key and of a
abbrev pub stored_at : Key → ℕ → Default
stored_at k s = record { key = k; start = s; row = row }

abbrev pub stored : ℕ → Default
stored s = stored_at key_a s

-- a row of a that does not decode: it lacks the bone count
abbrev pub broken : ℕ → Default
broken s = record { key = key_a; start = s; row = 0 ∷ 0 ∷ [] }

-- the same line at another key
abbrev pub at : Key → KeyLine → KeyLine
at k e = record { key = k; line = e.line }

-- a key of 4 bytes that stands after a; `short` of Worked stands before it
abbrev pub beyond : Key
beyond = 0 ∷ 0 ∷ 0 ∷ 2 ∷ []

-- the calls' own lock of a, and one of another transaction
abbrev pub mine : Kind → KeyLine
mine kind = lock 7 10 1 kind

abbrev pub theirs : KeyLine
theirs = lock 9 10 3 Delete

-- a record of another start whose commit is not its stamp: unsound; below the calls' start, and above it
abbrev pub unsound : KeyLine
unsound = write 8 3 9 Put

abbrev pub unsound_above : KeyLine
unsound_above = write 14 3 15 Put

-- ---- arguments

-- terms of a commit without a transaction
abbrev pub nobody : CommitTerms
nobody = record { txn = 0; start = 10; commit = 12 }

-- bytes of a batch's Put, and of a batch of two entries
abbrev pub put_of : Key → Bytes
put_of k = piece_bytes k ++ (1 ∷ piece_bytes row)

abbrev pub both : Bytes → Bytes → Bytes
both x y = 0 ∷ 2 ∷ x ++ y

-- ---- a case

-- 7 with its holder's transaction, start, time to live and kind; `plain` of Worked is an answer without one
abbrev pub held : ℕ → ℕ → ℕ → ℕ → List ℕ
held txn start ttl kind = 7 ∷ txn ∷ start ∷ ttl ∷ kind ∷ []

-- what a call answers, and the box after it
abbrev pub makes : String → (Box → Done) → Box → List ℕ → Box → Case
makes name call b answer after = record { name = name; got = saw (call b).answer (flat (call b).box); wanted = answer ++ flat after }

-- what a call answers that leaves the box as it was: refused, or accepted and unchanged
abbrev pub leaves : String → (Box → Done) → Box → List ℕ → Case
leaves name call b answer = makes name call b answer b

-- the same of a one-step batch, with its count
abbrev pub leaves_count : String → (Box → Counted) → Box → List ℕ → ℕ → Case
leaves_count name call b answer n =
    record { name = name; got = saw (call b).done.answer ((call b).count ∷ flat (call b).done.box); wanted = answer ++ (n ∷ flat b) }
