-- What is read from the file that declares the resources.
use Rattle.std.proofs.Common.{◌≡◌, ◌∙◌, sym, ap, subst, Bool, true, ℕ, ◌+◌, List, length, take, refl}
use Rattle.std.specs.Prelude.{Option, Some, None, Result, Ok, Err, IfSome, cond, nat_le, option_map}
use Rattle.std.specs.Result.{result_map_both}
use Rattle.ct_base.specs.declared.defs.Resource.{Resource}
use Rattle.ct_base.specs.Outside.{FilesTell, Held}
use Rattle.ct_spec.specs.declared.fault.SpecFault.{SpecFault}
use Rattle.ct_spec.specs.declared.fault.SpecFault.TheVariants.{NotJson, BadVersion, BadLocal, BadKind, BadId, TwiceId, BadSlots, TooMany, NoMemory as Wanting}
use Rattle.ct_spec.specs.Read.{IsFault}
use Rattle.ct_spec.specs.Specification.{resources_in}
use Rattle.ct_app.specs.declared.outcome.SpecRefusal.{SpecRefusal}
use Rattle.ct_app.specs.declared.outcome.SpecRefusal.TheVariants.{TooLong, Fault}
use Rattle.ct_app.specs.declared.spec_file.SpecFileFault.{SpecFileFault}
use Rattle.ct_app.specs.declared.spec_file.SpecFileFault.TheVariants.{Refused, Failed, NoMemory}
use Rattle.ct_app.specs.Outcome.{fault_of_spec}
use Rattle.ct_app.specs.RunFiles.{FilesStay}
use Rattle.ct_app.specs.SpecFile.{Declares, ReadsPath, ReadsSpec, declared_by, declared_in, most_spec_bytes}
use Rattle.ct_app.proofs.FrontLemmas.{made_of_front}

-- a text and its first bytes, one more than the limit, declare the same
declared_front : (held : Option (List ℕ)) → declared_in (option_map (take (most_spec_bytes + 1)) held) ≡ declared_in held
declared_front None = refl
declared_front (Some text) = made_of_front declared_by (Err TooLong) most_spec_bytes text

declared_read : (path : List ℕ) (told : Option Held) (got : Option (List ℕ)) (result : Result (List Resource) SpecRefusal) → IfSome told (λ held. got ≡ option_map (take (most_spec_bytes + 1)) (held path)) → declared_in got ≡ result → IfSome told (λ held. declared_in (held path) ≡ result)
declared_read path None got result read is = tt
declared_read path (Some held) got result read is = sym (ap declared_in read ∙ declared_front (held path)) ∙ is

-- the text at a path was read up to one byte more than the limit
pub path_read : (path other : List ℕ) (before now : FilesTell) (got : Option (List ℕ)) (result : Result (List Resource) SpecFileFault) → path ≡ other → IfSome before.held (λ held. got ≡ option_map (take (most_spec_bytes + 1)) (held path)) → FilesStay before now → Declares got result → ReadsPath other before now result
path_read path other before now got result same read stay declares = subst (λ (p : List ℕ). ReadsPath p before now result) same (by result declares)
  where
    by : (r : Result (List Resource) SpecFileFault) → Declares got r → ReadsPath path before now r
    by (Ok resources) is = (declared_read path before.held got (Ok resources) read is, stay)
    by (Err (Refused why)) is = (declared_read path before.held got (Err why) read is, stay)
    by (Err (Failed failed)) is = absurd is
    by (Err NoMemory) is = stay

-- where the named path was not read, the specification was not read, for the same reason
pub named_unread : (path : List ℕ) (before now : FilesTell) (fault : SpecFileFault) → ReadsPath path before now (Err fault) → ReadsSpec (Some path) before now (Err fault)
named_unread path before now (Refused why) unread = unread
named_unread path before now (Failed failed) unread = (ap Some (sym unread.0), unread.1)
named_unread path before now NoMemory unread = unread

-- a text within the limit declares its resources, or is refused for its first fault
module _ (text : List ℕ) (fits : nat_le (length text) most_spec_bytes ≡ true) where
  by_text : declared_in (Some text) ≡ declared_by text
  by_text = ap (λ (b : Bool). cond b (declared_by text) (Err TooLong)) fits

  refused_by : (fault : SpecFault) → resources_in text ≡ Err fault → declared_in (Some text) ≡ Err (Fault fault)
  refused_by fault is = by_text ∙ ap (λ (says : Result (List Resource) SpecFault). result_map_both (λ resources. resources) Fault says) is

  pub text_declares : (resources : List Resource) → resources_in text ≡ Ok resources → declared_in (Some text) ≡ Ok resources
  text_declares resources is = by_text ∙ ap (λ (says : Result (List Resource) SpecFault). result_map_both (λ rs. rs) Fault says) is

  pub text_refused : (fault : SpecFault) (told : SpecFileFault) → told ≡ fault_of_spec fault → IsFault (resources_in text) fault → Declares (Some text) (Err told)
  text_refused fault told same is = subst (λ (t : SpecFileFault). Declares (Some text) (Err t)) (sym same) (by fault is)
    where
      by : (f : SpecFault) → IsFault (resources_in text) f → Declares (Some text) (Err (fault_of_spec f))
      by NotJson is = refused_by NotJson is
      by BadVersion is = refused_by BadVersion is
      by BadLocal is = refused_by BadLocal is
      by (BadKind kind) is = refused_by (BadKind kind) is
      by (BadId kind entry) is = refused_by (BadId kind entry) is
      by (TwiceId kind entry) is = refused_by (TwiceId kind entry) is
      by (BadSlots kind entry) is = refused_by (BadSlots kind entry) is
      by TooMany is = refused_by TooMany is
      by Wanting is = tt
