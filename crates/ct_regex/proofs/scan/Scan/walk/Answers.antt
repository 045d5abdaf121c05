use Rattle.std.proofs.Common.{rules, ◌≡◌, ◌++◌, List, [], Bool, map, length, vec_len, true, refl, sym, ap, ◌∙◌}
use Rattle.std.proofs.lemmas.List.{take_at}
use Rattle.ct_regex.specs.Walk.{Step, step_of}
use Rattle.ct_regex.specs.Stand.{Stand, a_stand, stand_with, answer, behind_bytes}
use Rattle.ct_regex.specs.Memory.{stand_at}
use Rattle.ct_regex.proofs.ScanLemmas.{found_stays, alike_behind}
use Rattle.ct_regex.proofs.scan.Scan.walk.Goals as goal

pub invariant_of-self-clause-right : goal.invariant_of-self-clause-right
invariant_of-self-clause-right c =
    let steps : List Step = map step_of c.args.self.now.steps.items in
    let here : Stand = stand_at c.args.self.now.memory c.args.self.now.at in
    let steps_are : map step_of c.deref.result.now ≡ steps = ap (map step_of) c.deref.ensures.value in
    let began : a_stand c.deref_mut.result.now c.last-last.result ≡ here =
    ap (λ (ms : List Bool). a_stand ms c.last-last.result) (c.deref_mut.ensures.value ∙ c.copy_from_slice.ensures.items ∙ c.marks.ensures.marks)
    ∙ ap (a_stand here.marks) c.last-last.ensures in
    let comes : behind_bytes steps here c.args.bytes.now ≡ a_stand c.walk_on.new.marks c.in-Some.last =
    ap (λ (s : Stand). behind_bytes steps s c.args.bytes.now) (sym began)
    ∙ ap (λ (ss : List Step). behind_bytes ss (a_stand c.deref_mut.result.now c.last-last.result) c.args.bytes.now) (sym steps_are)
    ∙ c.in-Some.ensures.comes in
    let wide : length c.walk_on.new.marks ≡ vec_len c.copy_from_slice.new.self = search rules in
    let gave : c.deref-in-Some.result.now ≡ c.walk_on.new.marks = c.deref-in-Some.ensures.value ∙ take_at c.walk_on.new.marks _ (vec_len c.copy_from_slice.new.self) wide in
    let there : a_stand c.deref-in-Some.result.now c.in-Some.last ≡ behind_bytes steps here c.args.bytes.now =
    ap (λ (ms : List Bool). a_stand ms c.in-Some.last) gave ∙ sym comes in
    c.learn-self.ensures.remembers steps c.args.self.now.right (sym there)

pub returns-in-Some : goal.returns-in-Some
returns-in-Some c =
    let steps : List Step = map step_of c.args.self.now.steps.items in
    let here : Stand = stand_at c.args.self.now.memory c.args.self.now.at in
    let steps_are : map step_of c.deref.result.now ≡ steps = ap (map step_of) c.deref.ensures.value in
    let began : a_stand c.deref_mut.result.now c.last-last.result ≡ here =
    ap (λ (ms : List Bool). a_stand ms c.last-last.result) (c.deref_mut.ensures.value ∙ c.copy_from_slice.ensures.items ∙ c.marks.ensures.marks)
    ∙ ap (a_stand here.marks) c.last-last.ensures in
    let comes : behind_bytes steps here c.args.bytes.now ≡ a_stand c.walk_on.new.marks c.in-Some.last =
    ap (λ (s : Stand). behind_bytes steps s c.args.bytes.now) (sym began)
    ∙ ap (λ (ss : List Step). behind_bytes ss (a_stand c.deref_mut.result.now c.last-last.result) c.args.bytes.now) (sym steps_are)
    ∙ c.in-Some.ensures.comes in
    let wide : length c.walk_on.new.marks ≡ vec_len c.copy_from_slice.new.self = search rules in
    let gave : c.deref-in-Some.result.now ≡ c.walk_on.new.marks = c.deref-in-Some.ensures.value ∙ take_at c.walk_on.new.marks _ (vec_len c.copy_from_slice.new.self) wide in
    let there : a_stand c.deref-in-Some.result.now c.in-Some.last ≡ behind_bytes steps here c.args.bytes.now =
    ap (λ (ms : List Bool). a_stand ms c.in-Some.last) gave ∙ sym comes in
    let next : stand_with c.args.self.now.found (stand_at c.learn-self.new.self c.learn-self.result) ≡ behind_bytes steps here c.args.bytes.now =
    ap (λ (b : Bool). stand_with b (stand_at c.learn-self.new.self c.learn-self.result)) c.requires.goes ∙ c.learn-self.ensures.same ∙ there in
    record {
      answers = λ more.
          alike_behind steps (stand_with c.args.self.now.found (stand_at c.learn-self.new.self c.learn-self.result)) here [] c.args.bytes.now more next
          ∙ ap (λ (b : Bool). answer (behind_bytes steps (stand_with b here) (c.args.bytes.now ++ more))) (sym c.requires.goes);
      anew = λ bytes. ap (λ (s : Stand). answer (behind_bytes steps s bytes)) c.learn-self.ensures.first;
    }

pub returns-in-None : goal.returns-in-None
returns-in-None c =
    let steps : List Step = map step_of c.args.self.now.steps.items in
    let here : Stand = stand_at c.args.self.now.memory c.args.self.now.at in
    let steps_are : map step_of c.deref.result.now ≡ steps = ap (map step_of) c.deref.ensures.value in
    let began : a_stand c.deref_mut.result.now c.last-last.result ≡ here =
    ap (λ (ms : List Bool). a_stand ms c.last-last.result) (c.deref_mut.ensures.value ∙ c.copy_from_slice.ensures.items ∙ c.marks.ensures.marks)
    ∙ ap (a_stand here.marks) c.last-last.ensures in
    record {
      answers = λ more.
          found_stays steps (stand_with true here) more refl
          ∙ sym (ap (λ (b : Bool). answer (behind_bytes steps (stand_with b here) (c.args.bytes.now ++ more))) c.requires.goes
          ∙ ap (λ (s : Stand). answer (behind_bytes steps s (c.args.bytes.now ++ more))) (sym began)
          ∙ ap (λ (ss : List Step). answer (behind_bytes ss (a_stand c.deref_mut.result.now c.last-last.result) (c.args.bytes.now ++ more))) (sym steps_are)
          ∙ c.in-None.ensures.comes more);
      anew = λ bytes. refl;
    }
