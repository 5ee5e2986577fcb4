-- What the passes over the entries of a batch ask: entries in form, and a made store.
-- Assumes nothing.
use Rattle.std.specs.Prelude.{List}
use Rattle.forms.specs.Bytes.{Bytes}
use Rattle.forms.specs.Places.{InForm}
use Rattle.forms.specs.declared.batch.Entry.{Entry}
use Rattle.store.specs.declared.table.Store.{Store}
use Rattle.store.specs.Made.{Made}

-- the entries of a batch in form, before anything is looked up
pub record AllAsks (st : Store) (area s : Bytes) (es : List Entry) : Type 0 where
  pub made : Made st area
  pub form : InForm s es
