use Rattle.std.proofs.Common.{codes}
use Rattle.toml.proofs.Views.{table_get}
use Rattle.dlms_keys.proofs.stations.station_at.Goals as goal

pub returns : goal.returns
returns c = table_get c.get.result (codes "station") c.args.table.now.entries c.get.ensures.value
