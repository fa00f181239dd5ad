use Rattle.order_laws.proofs.CountdownFacts.{two_whole_orders}
use Rattle.order_laws.proofs.countdown.two_whole_orders.Goals as goal

pub returns : goal.returns
returns c = λ left o o' ok quiet ok' quiet'. two_whole_orders left o o' ok quiet ok' quiet'
