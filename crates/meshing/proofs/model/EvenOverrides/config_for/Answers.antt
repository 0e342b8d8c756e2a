-- `config_for` meets its contract: what `rposition` answers. Assumes nothing.
use Rattle.std.proofs.Common.{rules}
use Rattle.meshing.specs.Models.{overrides_of}
use Rattle.meshing.proofs.ModelLaws.{config_default, config_last}
use Rattle.meshing.proofs.model.EvenOverrides.config_for.Goals as goal

pub returns-in_default : goal.returns-in_default
returns-in_default c = config_default (overrides_of c.args.self.lists) c.args.default c.args.material.0 (search rules)

pub returns : goal.returns
returns c = config_last (overrides_of c.args.self.lists) c.args.default c.args.material.0 c.in-Some.i (search rules) (search rules) (search rules)
