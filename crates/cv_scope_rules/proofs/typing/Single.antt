-- A refusal of a part that stands alone.
use Rattle.std.proofs.Common.{◌≡◌, ℕ, Bool, true, false, not, List, [], ◌∷◌, Option, Some, None, refl, sym, ap, ◌∙◌}
use Rattle.std.specs.Prelude.{is_some}
use Rattle.cv_syntax_trees.specs.Declarations.{Declaration}
use Rattle.cv_scope_rules.specs.declared.typing.fault.Fault.{Fault}
use Rattle.cv_scope_rules.specs.declared.typing.fault.TypeFault.{TypeFault}
use Rattle.cv_scope_rules.specs.declared.typing.fault.TypeFault.TheVariants as refused
use Rattle.cv_syntax_trees.specs.sites.Sites.{first_of}
use Rattle.cv_scope_rules.specs.typing.Parts.{Part, first_in, signature_of}
use Rattle.cv_scope_rules.specs.typing.Refusals.{IsRefusalOf, named}
use Rattle.cv_scope_rules.specs.typing.Typing.{first_fault}

-- a refusal that names a fault is of one
pub fault_there : (found : Option (ℕ × Fault)) (t : TypeFault) (b : Bool) → IsRefusalOf found t → b ≡ not (is_some (named t)) → b ≡ false → false ≡ not (is_some found)
fault_there found (refused.WrongType p) b i e f = ap (λ o. not (is_some o)) (sym i)
fault_there found (refused.Arity p) b i e f = ap (λ o. not (is_some o)) (sym i)
fault_there found (refused.IndexAsMessage p) b i e f = ap (λ o. not (is_some o)) (sym i)
fault_there found (refused.NotFixed p) b i e f = ap (λ o. not (is_some o)) (sym i)
fault_there found refused.OutOfMemory b i e f = absurd (cc)

pub none_there : {A : Type 0} (found : Option A) → found ≡ None → true ≡ not (is_some found)
none_there found e = sym (ap (λ o. not (is_some o)) e)

alone : (o : Option (ℕ × Fault)) → is_some (first_of o None) ≡ is_some o
alone None = refl
alone (Some x) = refl

pub part_alone : (ds : List Declaration) (p : ℕ) (part : Part) → not (is_some (first_in ds p (part ∷ []))) ≡ not (is_some (first_fault (signature_of ds part) part.above part.want p part.tree))
unfolding first_in
part_alone ds p part = ap not (alone (first_fault (signature_of ds part) part.above part.want p part.tree))
