use Rattle.bench_setting.proofs.Apart.{number_apart}
use Rattle.bench_setting.proofs.laws.number_apart.Goals as goal

pub returns : goal.returns
returns c = λ e net ins regs s p v r out. number_apart e net r ins regs s p v out
