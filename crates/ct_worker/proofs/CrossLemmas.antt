-- Threads may share what the workers share, and the state of a run may go from one thread to another.
use denote.Exit.{no}
use denote.Param.{arg, param}
use denote.Param.Send.{AllSend, IsSend, IsSync, arg_send, mut_slice_send, param_send, recorded_send, sendable, shr_send, struct_send}
use denote.RattleType.{RattleType}
use denote.Ref.{NamedLft, ShrRef}
use denote.Slice.{MutSlice}
use denote.Struct.Declared.{shape}
use denote.Struct.Field.{u32-field}
use denote.Struct.Struct.{Struct}
use denote.Struct.Tuple.{TupleAt, type_at}
use mathlib.Core.List.{List, [], ◌∷◌}
use mir.Syntax.{Sym, Ty}
use Rattle.std.specs.contracts.alloc.Global as Global
use Rattle.std.proofs.alloc.Global.TheSendSync.{the_sync}
use Rattle.std.proofs.Crossing as std
use Rattle.std.proofs.MapsCrossing as maps
use Rattle.ct_base.specs.contracts.list.List as Lists
use Rattle.ct_base.specs.contracts.name.Name as Name
use Rattle.ct_base.specs.declared.sink.Sink.{Ghosts}
use Rattle.ct_core.specs.contracts.scheduler.Core as Core
use Rattle.ct_groups.specs.contracts.groups.Groups as Groups
use Rattle.ct_history.specs.declared.board.Board as Board
use Rattle.ct_props.specs.contracts.props.Props as Props
use Rattle.ct_regex.specs.contracts.pattern.Regex as Regex
use Rattle.ct_regex.proofs.tree.Node.TheLaws.TheKnot as nodes
use Rattle.ct_turn.specs.contracts.pass.Pass as Pass
use Rattle.ct_turn.specs.contracts.turn.Turn as Turn
use Rattle.ct_turn.proofs.pass.Pass.TheSendSync.{the_send}
use Rattle.ct_turn.proofs.turn.Turn.TheSendSync as Turns
use Rattle.ct_worker.specs.contracts.jobs.Jobs as Jobs
use Rattle.ct_worker.specs.contracts.state.State as State

-- the core of a run may go to another thread, and its state may if its sink may
core_send : IsSend Core.the_row
core_send = search (maps.crosses, std.crosses, sendable) depth 60 fits 20000

pub state_send : (S : RattleType) (g : Ghosts S.Denot) → IsSend S → IsSend (State.the_row S g)
state_send S g s = search (core_send, maps.crosses, std.crosses, sendable) depth 60 fits 20000

-- threads may share the turn, if the sink may go to another thread
pub turn_sync : (S : RattleType) (g : Ghosts S.Denot) (board : Board.Ghosts (State.the_row S g).Denot) → IsSend S → IsSync (Turn.the_row (State.the_row S g) board)
turn_sync S g board s = Turns.the_sync (State.the_row S g) board (state_send S g s)

-- threads may share the parts of the jobs
name_sync : IsSync Name.the_row
name_sync = search (std.crosses, sendable) depth 60 fits 20000

names_sync : IsSync (Lists.the_row Name.the_row)
names_sync = search (name_sync, std.crosses, sendable) depth 60 fits 20000

regexes_sync : IsSync (Lists.the_row Regex.the_row)
regexes_sync = search (std.crosses, nodes.crosses, sendable) depth 60 fits 20000

groups_sync : IsSync (Groups.the_field).row
groups_sync = search (std.crosses, sendable) depth 60 fits 20000

props_sync : IsSync Props.the_row
props_sync = search (name_sync, names_sync, regexes_sync, groups_sync, std.crosses, sendable) depth 60 fits 20000

-- threads may share the jobs
pub jobs_sync : (a : NamedLft) → IsSync (Jobs.the_row a)
jobs_sync a = search (props_sync, maps.crosses, std.crosses, nodes.crosses, sendable) depth 60 fits 20000

-- a tuple, which is what a closure captures, may go to another thread if each of its parts may
all_send : (ν : Sym) (Ts : List RattleType) → AllSend (shape (type_at ν Ts)).fields → IsSend (TupleAt ν Ts)
all_send ν Ts each = recorded_send (Struct (shape (type_at ν Ts))) _ _ (type_at ν Ts).to_one (struct_send (shape (type_at ν Ts)) each)

module _ (R G S : RattleType) (g : Ghosts S.Denot) (board : Board.Ghosts (State.the_row S g).Denot) (ℓ₀ ℓ₁ ℓ₂ ℓ₃ ℓ₄ ℓ₅ ℓ₆ a : NamedLft) where
  -- what the closure captures: a runtime, the allocator,
  -- the turn, the jobs, a number, and some passes and gates
  abbrev pub captured : List RattleType
  captured =
      ShrRef ℓ₀.mir ℓ₀.lft R ∷ ShrRef ℓ₁.mir ℓ₁.lft Global.the_row ∷ ShrRef ℓ₂.mir ℓ₂.lft (Turn.the_row (State.the_row S g) board) ∷ ShrRef ℓ₃.mir ℓ₃.lft (Jobs.the_row a)
      ∷ ShrRef ℓ₄.mir ℓ₄.lft (u32-field).row ∷ MutSlice ℓ₅.mir ℓ₅.lft Pass.the_row ∷ MutSlice ℓ₆.mir ℓ₆.lft G ∷ []

  -- a closure that captures these may go to another thread
  pub closure_send : (δ : Ty) (ν : Sym) → IsSync R → IsSend G → IsSend S → IsSend (param 1 (arg δ no (TupleAt ν captured)))
  closure_send δ ν r s t =
      let each : AllSend (shape (type_at ν captured)).fields = (
        shr_send _ _ _ r,
        (
          shr_send _ _ _ the_sync,
          (
            shr_send _ _ _ (turn_sync S g board t),
            (
              shr_send _ _ _ (jobs_sync a),
              (shr_send _ _ (u32-field).row (search sendable), (mut_slice_send _ _ _ the_send, (mut_slice_send _ _ _ s, tt))),
            ),
          ),
        ),
      ) in
      param_send 1 (arg δ no (TupleAt ν captured)) (arg_send δ no (TupleAt ν captured) (all_send ν captured each))
