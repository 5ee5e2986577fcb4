-- What is made on the copy is made with the same store.
use Rattle.bench.proofs.BenchTurnLaws.{made-copy}
use Rattle.bench.proofs.turning.change_on_copy.Goals as goal

pub change_call-requires : goal.change_call-requires
change_call-requires c = made-copy c.requires.made c.copy_below.ensures c.requires.length_is
