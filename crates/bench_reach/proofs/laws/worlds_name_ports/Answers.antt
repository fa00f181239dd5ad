use Rattle.bench_reach.proofs.Naming.{worlds_name_ports}
use Rattle.bench_reach.proofs.laws.worlds_name_ports.Goals as goal

pub returns : goal.returns
returns c = worlds_name_ports
