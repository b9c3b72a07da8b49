-- The parts of a file, one after another.
use Rattle.std.proofs.Common.{◌≡◌, ℕ, ◌+◌, Bool, true, false, cond, List, [], ◌∷◌, refl, ap, subst, nat_eq, Option, Some, None, Result, Ok, Err, IfErr, OnOk}
use Rattle.std.specs.Prelude.{All, ◌==◌}
use Rattle.std.proofs.Math.Path.{fun_ext}
use Rattle.std.proofs.lemmas.List.Elements.{All-head, All-tail}
use Rattle.cv_syntax.specs.declared.decls.Decl.{Decl}
use Rattle.cv_syntax.specs.declared.decls.Decl.TheVariants as decl
use Rattle.cv_syntax.specs.Classes.{declaration_in, args_by}
use Rattle.cv_syntax_trees.specs.Declarations.{Declaration}
use Rattle.cv_syntax_trees.specs.Tree.{size}
use Rattle.cv_pool.specs.Nodes.{ChildBelow}
use Rattle.cv_scope_rules.specs.declared.typing.fault.Fault.{Fault}
use Rattle.cv_scope_rules.specs.declared.typing.fault.Fault.TheVariants as fault
use Rattle.cv_scope_rules.specs.declared.typing.fault.TypeFault.{TypeFault}
use Rattle.cv_scope_rules.specs.declared.typing.fault.TypeFault.TheVariants as refused
use Rattle.cv_syntax_trees.specs.declared.sites.sort.Sort.{Sort}
use Rattle.cv_typing.specs.Lookups.{HasLiveArguments}
use Rattle.cv_directory.specs.Live.{IsLive}
use Rattle.cv_scope_rules.specs.typing.Parts.{Part, IsTypedPart, signature_of, first_in, nothing_above}
use Rattle.cv_scope_rules.specs.typing.Refusals.{IsFirstRefusal, IsRefusalOf}
use Rattle.cv_syntax_trees.specs.sites.Sites.{first_of}
use Rattle.cv_typing.specs.Tables.{Map, above_of}
use Rattle.cv_scope_rules.specs.typing.Typing.{first_fault}
use Rattle.cv_scope_rules.proofs.typing.First.{finds_first_in, parts_typed_where_none, game_alone}

first_of_none : {A : Type 0} (a b : Option A) → a ≡ None → first_of a b ≡ b
first_of_none None b e = refl
first_of_none (Some x) b e = absurd (cc)

first_of_some : {A : Type 0} (a b : Option A) (x : A) → a ≡ Some x → first_of a b ≡ Some x
first_of_some (Some y) b x e = e
first_of_some None b x e = absurd (cc)

-- behind a part that is typed
pub part_step : (ds : List Declaration) (p : ℕ) (part : Part) (parts : List Part) → first_fault (signature_of ds part) part.above part.want p part.tree ≡ None → first_in ds p (part ∷ parts) ≡ first_in ds (p + size part.tree) parts
unfolding first_in
part_step ds p part parts e = first_of_none _ _ e

pub parts_end : (ds : List Declaration) (p : ℕ) → first_in ds p [] ≡ None
unfolding first_in
parts_end ds p = refl

-- the fault of a part is refused
refused_part : (ds : List Declaration) (p : ℕ) (part : Part) (parts : List Part) (t : TypeFault) → IsRefusalOf (first_fault (signature_of ds part) part.above part.want p part.tree) t → IsRefusalOf (first_in ds p (part ∷ parts)) t
unfolding first_in
refused_part ds p part parts (refused.WrongType q) i = first_of_some _ _ (q, fault.WrongType) i
refused_part ds p part parts (refused.Arity q) i = first_of_some _ _ (q, fault.Arity) i
refused_part ds p part parts (refused.IndexAsMessage q) i = first_of_some _ _ (q, fault.IndexAsMessage) i
refused_part ds p part parts (refused.NotFixed q) i = first_of_some _ _ (q, fault.NotFixed) i
refused_part ds p part parts refused.OutOfMemory i = tt

pub part_refused : (ds : List Declaration) (p : ℕ) (part : Part) (parts : List Part) (m : Option (ℕ × Fault)) (t : TypeFault) → m ≡ first_fault (signature_of ds part) part.above part.want p part.tree → IsRefusalOf m t → IsRefusalOf (first_in ds p (part ∷ parts)) t
part_refused ds p part parts m t e i = refused_part ds p part parts t (subst (λ (x : Option (ℕ × Fault)). IsRefusalOf x t) e i)

-- a refusal names the first fault
pub first_refusal : (ds : List Declaration) (parts : List Part) (t : TypeFault) → IsRefusalOf (first_in ds 0 parts) t → IsFirstRefusal ds parts t
first_refusal ds parts (refused.WrongType q) i = finds_first_in ds 0 parts q fault.WrongType i
first_refusal ds parts (refused.Arity q) i = finds_first_in ds 0 parts q fault.Arity i
first_refusal ds parts (refused.IndexAsMessage q) i = finds_first_in ds 0 parts q fault.IndexAsMessage i
first_refusal ds parts (refused.NotFixed q) i = finds_first_in ds 0 parts q fault.NotFixed i
first_refusal ds parts refused.OutOfMemory i = tt

pub first_refusals : {A : Type 0} (ds : List Declaration) (parts : List Part) (r : Result A TypeFault) → IfErr r (IsRefusalOf (first_in ds 0 parts)) → IfErr r (IsFirstRefusal ds parts)
first_refusals ds parts (Ok u) i = i
first_refusals ds parts (Err t) i = first_refusal ds parts t i

pub game_typed : (ds : List Declaration) (part : Part) (r : Result (Unit {0}) TypeFault) → OnOk r (first_in ds 0 (part ∷ []) ≡ None) → OnOk r (IsTypedPart ds part)
game_typed ds part (Ok u) i = game_alone ds part (parts_typed_where_none ds 0 (part ∷ []) i)
game_typed ds part (Err t) i = i

-- nothing is bound in an empty map
pub nothing_bound : (m : Map Sort) → m.entries ≡ [] → above_of m ≡ nothing_above
nothing_bound m e = fun_ext (λ x. ap (λ es. Rattle.std.specs.Map.lookup (nat_eq x) es) e)

-- arguments of live declarations are live
pick_live : (n : ℕ) (b : Bool) (d e : Option Decl) → ChildBelow n (args_by d) → ChildBelow n (args_by e) → ChildBelow n (args_by (cond b d e))
pick_live n true d e p q = p
pick_live n false d e p q = q

pub arguments_live : (n : ℕ) (ds : List Decl) → All (IsLive n) ds → HasLiveArguments n ds
arguments_live n [] p x = tt
arguments_live n (decl.Name id c args result ∷ ds) p x = pick_live n (x == id.0) (Some (decl.Name id c args result)) (declaration_in ds x) (All-head (IsLive n) (decl.Name id c args result) ds p) (arguments_live n ds (All-tail (IsLive n) (decl.Name id c args result) ds p) x)
arguments_live n (decl.Equation m ∷ ds) p x = arguments_live n ds (All-tail (IsLive n) (decl.Equation m) ds p) x
arguments_live n (decl.Equiv id m ∷ ds) p x = pick_live n (x == id.0) (Some (decl.Equiv id m)) (declaration_in ds x) tt (arguments_live n ds (All-tail (IsLive n) (decl.Equiv id m) ds p) x)
arguments_live n (decl.Query m ∷ ds) p x = arguments_live n ds (All-tail (IsLive n) (decl.Query m) ds p) x
