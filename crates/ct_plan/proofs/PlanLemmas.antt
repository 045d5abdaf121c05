-- A fault of ordering is answered as the fault of planning.
use Rattle.std.proofs.Common.{ℕ, List, Option, Err}
use Rattle.ct_base.specs.declared.defs.Resource.{Resource}
use Rattle.ct_base.specs.declared.defs.TestDef.{TestDef}
use Rattle.ct_props.specs.declared.props.Props.{Props}
use Rattle.ct_props.specs.declared.wanted.Wanted.{Wanted}
use Rattle.ct_graph.specs.Order.{IsAnswer}
use Rattle.ct_graph.specs.declared.fault.GraphFault.{GraphFault}
use Rattle.ct_graph.specs.declared.fault.GraphFault.TheVariants.{Cycle, TooManyEdges, NoMemory}
use Rattle.ct_cost.specs.declared.cost_data.CostData.{CostData}
use Rattle.ct_plan.specs.Source.{run_members, source}
use Rattle.ct_plan.specs.PlanOf.{IsPlanAnswer}
use Rattle.ct_plan.specs.Linked.{plan_fault}

pub no_plan : (most : ℕ) (defs : List TestDef) (props : List Props) (wanted : Wanted) (resources : Option (List Resource)) (costs : CostData) (fault : GraphFault) → IsAnswer most defs props (run_members (source defs props wanted resources costs)) (Err fault) → IsPlanAnswer most (source defs props wanted resources costs) (Err (plan_fault fault))
no_plan most defs props wanted resources costs (Cycle tests) is = is
no_plan most defs props wanted resources costs TooManyEdges is = is
no_plan most defs props wanted resources costs NoMemory is = tt
