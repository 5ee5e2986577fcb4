-- Steps that several calls make of a batch, and at one entry.
-- Assumes nothing.
use Rattle.std.specs.Prelude.{ℕ, Bool, true, false, List, [], None, Some}
use Rattle.std.specs.Prelude.{Option as Maybe}
use Rattle.std.specs.Borrow.{Bor}
use Rattle.std.proofs.Math.Option.{Option, none, some}
use Rattle.forms.specs.Key.{key_form}
use Rattle.forms.specs.Batch.{Mutation}
use Rattle.forms.specs.Places.{counting}
use Rattle.forms.specs.declared.batch.Entry.{Entry}
use Rattle.forms.specs.declared.entries.Entries.{Entries}
use Rattle.rules.specs.Answers.{Answer, Accepted, ◌▸◌, need, need_own}
use Rattle.rules.specs.Box.{Lock, holder_of}
use Rattle.rules.specs.Calls.{owns, row_argument}

-- whether there are entries
abbrev pub is_there : Maybe (Bor (List Entry)) → Bool
is_there None = false
is_there (Some es) = true

-- and which, if there are
abbrev pub those : Maybe (Bor (List Entry)) → List Entry
those None = []
those (Some es) = es.now

-- whether a batch was in form
abbrev pub in_form : Maybe Entries → Bool
in_form None = false
in_form (Some v) = true

-- and its entries, if it was
abbrev pub entries_read : Maybe Entries → List Entry
entries_read None = []
entries_read (Some v) = counting v

-- "1, 2"
unfoldable pub argument_step : Mutation → Answer
argument_step m =
    need (key_form m.key) 1 ▸
    need (row_argument m.row) 2

-- "another's lock 7"
abbrev pub own_step : ℕ → ℕ → Option Lock → Answer
own_step txn start none = Accepted
own_step txn start (some l) = need_own (owns txn start l) (holder_of l)
