-- `forms::ones::one_mutation` meets its contract: a count of one, the key, the kind and a Put's row.
-- Assumes nothing.
use Rattle.forms.proofs.OneLaws.{key-room, delete-laid, put-laid}
use native.Mathlib.Omega.{arith}
use Rattle.forms.proofs.ones.one_mutation.Goals as goal

pub put_byte-requires : goal.put_byte-requires
put_byte-requires c = omega (arith, key-room c.args.key.now c.put_digits-a.ensures c.put_fitting-b.ensures c.requires)

pub returns-then-not-put : goal.returns-then-not-put
returns-then-not-put c = delete-laid _ c.put_digits-a.ensures c.put_fitting-b.ensures c.args.put c.args.row.now c.if-not-put.true c.put_byte.ensures

pub put_byte-c-requires : goal.put_byte-c-requires
put_byte-c-requires c = omega (arith, key-room c.args.key.now c.put_digits-a.ensures c.put_fitting-b.ensures c.requires)

pub put_fitting-requires : goal.put_fitting-requires
put_fitting-requires c = omega (arith, key-room c.args.key.now c.put_digits-a.ensures c.put_fitting-b.ensures c.requires, c.put_byte-c.ensures.next, c.put_byte-c.ensures.length_is)

pub returns : goal.returns
returns c = put-laid _ c.put_digits-a.ensures c.put_fitting-b.ensures c.args.put c.args.row.now c.if-not-put.false c.put_byte-c.ensures c.put_fitting.ensures
