use Rattle.inference.specs.Views.{lines_of, run_is}
use Rattle.inference.proofs.Onward.{none_follows, opposed_listed, reached_more, all_listed}
use Rattle.inference.proofs.lines.Lines.list_up_to.Goals as goal

pub returns-then-opposed : goal.returns-then-opposed
returns-then-opposed g c =
    opposed_listed (run_is c.args.run.now) c.args.k (lines_of c.args.self.now) c.loop-count.count (lines_of c.loop-count.self) c.loop-count.invariant c.loop-count-test.true (lines_of c.list_next.new.self) c.in-Some.opposed c.if-opposed.true c.in-Some.ensures

pub returns-in_default : goal.returns-in_default
returns-in_default g c =
    none_follows (run_is c.args.run.now) c.args.k (lines_of c.args.self.now) c.loop-count.count (lines_of c.loop-count.self) c.loop-count.invariant c.loop-count-test.true (lines_of c.list_next.new.self) c.in_default.ensures

pub loop-count-preserved : goal.loop-count-preserved
loop-count-preserved g c =
    reached_more (run_is c.args.run.now) c.args.k (lines_of c.args.self.now) c.loop-count.count (lines_of c.loop-count.self) c.loop-count.invariant c.loop-count-test.true (lines_of c.list_next.new.self) c.in-Some.opposed c.if-opposed.false c.in-Some.ensures

pub returns : goal.returns
returns g c = all_listed (run_is c.args.run.now) c.args.k (lines_of c.args.self.now) c.loop-count.count (lines_of c.loop-count.self) c.loop-count.invariant c.loop-count-test.false
