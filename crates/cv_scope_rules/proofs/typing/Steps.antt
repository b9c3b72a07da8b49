-- The first fault of a tree, node by node.
use Rattle.std.proofs.Common.{◌≡◌, ℕ, ◌+◌, Bool, true, false, cond, refl, ap, sym, subst, ◌∙◌, Option, Some, None}
use Rattle.cv_syntax_trees.specs.declared.head.Head.{Head}
use Rattle.cv_syntax_trees.specs.Head.{weight}
use Rattle.cv_syntax_trees.specs.Tree.{Tree, Empty, Node, size}
use Rattle.cv_syntax.specs.faults.Walk.{first_of, placed}
use Rattle.cv_syntax.proofs.faults.Steps as walk
use Rattle.cv_scope_rules.specs.declared.typing.fault.Fault.{Fault}
use Rattle.cv_scope_rules.specs.declared.typing.fault.Fault.TheVariants as fault
use Rattle.cv_scope_rules.specs.declared.typing.fault.TypeFault.{TypeFault}
use Rattle.cv_scope_rules.specs.typing.Refusals.{IsRefusalOf, named, refusal}
use Rattle.cv_scope_rules.specs.typing.Signature.{Signature, Above}
use Rattle.cv_scope_rules.specs.typing.Wants.{Want, above_second, binds, wants, with_names}
use Rattle.cv_scope_rules.specs.typing.Typing.{fault_of, first_fault, typing_walk}

pub fault_end : (e : Signature) (above : Above) (w : Want) (p : ℕ) (t : Tree) → t ≡ Empty → first_fault e above w p t ≡ None
fault_end e above w p t h = walk.fault_end (typing_walk e) (above, w) p t h

-- a node, with what is known of it and its parts
pub fault_parts : (e : Signature) (above : Above) (w : Want) (p : ℕ) (t : Tree) (h : Head) (a b : Tree) (o : Option Fault) (u : Want × Want) (q r : ℕ) (below : Above) → t ≡ Node h a b → o ≡ fault_of e above w h a → u ≡ wants e above w h a → q ≡ p + weight h → r ≡ q + size a → below ≡ above_second w h a above → first_fault e above w p t ≡ first_of (placed p o) (first_of (first_fault e above u.0 q a) (first_fault e below u.1 r b))
fault_parts e above w p t h a b o u q r below et eo eu eq er eb = walk.fault_parts (typing_walk e) (above, w) (above, u.0) (below, u.1) p q r t h a b o et eo (λ i. (above, (eu i).0)) eq (λ i. (eb i, (eu i).1)) er

named_refusal : (p : ℕ) (f : Fault) → named (refusal p f) ≡ Some (p, f)
named_refusal p fault.WrongType = refl
named_refusal p fault.Arity = refl
named_refusal p fault.IndexAsMessage = refl
named_refusal p fault.NotFixed = refl

-- the fault of the node itself is refused
pub refused_here : (p : ℕ) (o : Option Fault) (f : Fault) (m total : Option (ℕ × Fault)) (t : TypeFault) → o ≡ Some f → first_of (placed p o) m ≡ total → t ≡ refusal p f → IsRefusalOf total t
refused_here p o f m total t e h i = walk.refused_here p o f m total (named t) e h (ap named i ∙ named_refusal p f)

-- the fault of the first part is refused
pub refused_first : (p : ℕ) (o : Option Fault) (m n total : Option (ℕ × Fault)) (t : TypeFault) → o ≡ None → first_of (placed p o) (first_of m n) ≡ total → IsRefusalOf m t → IsRefusalOf total t
refused_first p o m n total t e h i = walk.refused_first p o m n total (named t) e h i

-- names above the second child

pub names_bound : (w : Want) (h : Head) (a : Tree) (above : Above) (b : Bool) → b ≡ binds w h → b ≡ true → with_names h a above ≡ above_second w h a above
names_bound w h a above b e f = sym (ap (λ c. cond c (with_names h a above) above) (sym e ∙ f))

pub none_bound : (w : Want) (h : Head) (a : Tree) (above : Above) (b : Bool) → b ≡ binds w h → b ≡ false → above ≡ above_second w h a above
none_bound w h a above b e f = sym (ap (λ c. cond c (with_names h a above) above) (sym e ∙ f))

pub refused_as : (m total : Option (ℕ × Fault)) (t : TypeFault) → m ≡ total → IsRefusalOf m t → IsRefusalOf total t
refused_as m total t e i = subst (λ (x : Option (ℕ × Fault)). IsRefusalOf x t) e i
