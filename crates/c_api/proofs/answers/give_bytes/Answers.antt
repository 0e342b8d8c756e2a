use Rattle.std.proofs.Common.{refl}
use Rattle.c_api.proofs.Copies.{cut_copied}
use Rattle.c_api.proofs.answers.give_bytes.Goals as goal

pub returns : goal.returns
returns c = record { count = refl; copy = cut_copied c.args.bytes.now c.args.copy.now c.copy_from_slice.new.self c.min-n.result c.min-n.ensures c.copy_from_slice.ensures.after }
