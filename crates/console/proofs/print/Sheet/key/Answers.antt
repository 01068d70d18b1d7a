-- `Sheet::key` meets its promise: the key is written where it has room.
use Rattle.std.proofs.Common.{refl}
use Rattle.console.specs.Sheet.{puts_fit}
use Rattle.console.proofs.print.Sheet.key.Goals as goal

pub returns : goal.returns
returns c = puts_fit _ _ _ c.put_bytes-self.ensures.value c.put_bytes-self.ensures.out_after refl
