use Rattle.std.proofs.Common.{◌≡◌, ℕ, List, sym, ◌∙◌, subst}
use Rattle.memory.specs.declared.lines.Line.{Line}
use Rattle.memory.specs.Runs.{Run}
use Rattle.inference.specs.Views.{run_is}
use Rattle.search.specs.Placing.{Standing}
use Rattle.search.specs.Steps.{Walk, Steps, Ends, walk}
use Rattle.search.specs.Views.{standing_of}
use Rattle.search.proofs.Steps.{all_made, ended, reached_more, steps_is, steps_end}
use Rattle.search.proofs.searches.Search.make_steps.Goals as goal

-- what is computed is what the relation says
told : (R : Run) (ls : List Line) (k : ℕ) (s : Standing) (w : Walk) → w ≡ walk R ls k s → record { value : w ≡ walk R ls k s; steps : Steps R ls k s w; ends : Ends k w }
told R ls k s w is = let steps : Steps R ls k s w = subst (Steps R ls k s) (sym is) (steps_is R ls k s) in record { value = is; steps = steps; ends = steps_end steps }

pub returns-then-is_some : goal.returns-then-is_some
returns-then-is_some g c =
    told _ _ _ _ _ (ended (run_is c.args.run.now) c.args.lines.now c.args.k (standing_of c.args.self.now) c.loop-count.count (standing_of c.loop-count.self) c.loop-count.invariant c.loop-count-test.true (standing_of c.step-verdict.new.self) c.step-verdict.result (sym c.is_some.ensures ∙ c.if-is_some.true) c.step-verdict.ensures)

pub loop-count-preserved : goal.loop-count-preserved
loop-count-preserved g c =
    reached_more (run_is c.args.run.now) c.args.lines.now c.args.k (standing_of c.args.self.now) c.loop-count.count (standing_of c.loop-count.self) c.loop-count.invariant c.loop-count-test.true (standing_of c.step-verdict.new.self) c.step-verdict.result (sym c.is_some.ensures ∙ c.if-is_some.false) c.step-verdict.ensures

pub returns : goal.returns
returns g c =
    told _ _ _ _ _ (all_made (run_is c.args.run.now) c.args.lines.now c.args.k (standing_of c.args.self.now) c.loop-count.count (standing_of c.loop-count.self) c.loop-count.invariant c.loop-count-test.false)
