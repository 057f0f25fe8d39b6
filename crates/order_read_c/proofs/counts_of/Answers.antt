-- Each call gives that part of a span.
use Rattle.std.proofs.Common.{rules, ◌≡◌, length}
use Rattle.format.specs.Source.{span_of}
use Rattle.format.specs.declared.Span.{Span}
use Rattle.order_read_c.proofs.Answers.{row_is}
use Rattle.order_read_c.proofs.counts_of.Goals as goal

pub returns : goal.returns
returns c =
    let m = c.map.ensures.items in
    let long : length c.map.result ≡ length c.args.lines = search rules in
    row_is (λ (s : Span). s.count) c.args.lines c.map.result long
    (λ i less. (let got = m.at i (span_of 0 0) 0 (search rules) in search rules))
