-- Declarations, one after another.
use Rattle.std.proofs.Common.{◌≡◌, ℕ, zero, suc, ◌+◌, ◌<◌, ◌≤◌, ◌==◌, if◌then◌else◌, Bool, true, false, List, [], ◌∷◌, ◌++◌, length, drop, get_or, append_assoc, append-nil, length-append, subst, refl, ap, ap₂, sym, ◌∙◌, arith, Option, Some, None, eqb-true, eq-eqb}
use Rattle.std.proofs.lemmas.List.{drop_all}
use Rattle.std.specs.Prelude.{flat_map, option_map}
use Rattle.std.specs.List.{AllByRecursion}
use Rattle.cv_syntax_trees.proofs.lists.Tests.{or_first, or_second}
use Rattle.cv_syntax_trees.specs.declared.class.Class.{Class}
use Rattle.cv_syntax_trees.specs.declared.class.Class.TheVariants as class
use Rattle.cv_syntax.specs.declared.decls.Decl.{Decl}
use Rattle.cv_syntax.specs.declared.decls.Decl.TheVariants as decl
use Rattle.cv_syntax.specs.Classes.{IsNamed, IsNew, declaration_in}
use Rattle.cv_pool.specs.declared.names.names.NameId.{NameId}
use Rattle.cv_pool.specs.declared.node.NodeId.{NodeId}
use Rattle.cv_parse_grammar.specs.Identities.{AreDistinct, is_among}
use Rattle.cv_parse_declarations.specs.declared.signature.heard.Heard.{Heard}
use Rattle.cv_parse_declarations.specs.declared.signature.heard.Heard.TheVariants as heard
use Rattle.cv_parse_declarations.specs.signature.Declares.{is_of_name}
use Rattle.cv_parse.specs.Declaring.{IsNameable, all_decls, decl_of, named_by, names_by, names_of}

-- a declaration is of a name as far as it was heard so

named_class : (id : NameId) (c : Class) (args : Option NodeId) (result : Option NameId) → is_of_name c ≡ true → IsNamed (decl.Name id c args result)
named_class id class.Free args result e = absurd (let g : false ≡ true = e in cc)
named_class id class.Equiv args result e = absurd (let g : false ≡ true = e in cc)
named_class id (class.TypeName a b) args result e = tt
named_class id class.Param args result e = tt
named_class id class.Channel args result e = tt
named_class id (class.Fun a) args result e = tt
named_class id class.Event args result e = tt
named_class id class.Proba args result e = tt

pub is_named : (h : Heard) (r : Option NodeId) → IsNameable h → IsNamed (decl_of h r)
is_named (heard.Named id c sort) r e = named_class (named_by id) c r (option_map named_by sort) e
is_named heard.Equation r e = tt
is_named (heard.Equiv id) r e = tt
is_named heard.Query r e = tt

pub names_same : (h : Heard) (r : Option NodeId) → names_of (decl_of h r) ≡ names_by h
names_same (heard.Named id c sort) r = refl
names_same heard.Equation r = refl
names_same (heard.Equiv id) r = refl
names_same heard.Query r = refl

-- a name that is not among those declared is new

other_number : (x y : ℕ) → (y == x) ≡ false → (x == y) ≡ false
other_number x y e = elim (x == y) as (λ b. (x == y) ≡ b → b ≡ false) [ true ↦ λ f. absurd (let g = eq-eqb y x (sym (eqb-true x y f)) in cc) | false ↦ λ f. refl ] refl

passed : (b : Bool) (d : Decl) (o : Option Decl) → b ≡ false → o ≡ None → (if b then Some d else o) ≡ None
passed false d o e f = f
passed true d o e f = absurd (cc)

not_declared : (ds : List Decl) (x : ℕ) → is_among (flat_map names_of ds) x ≡ false → declaration_in ds x ≡ None
not_declared [] x e = refl
not_declared (decl.Name id c args result ∷ ds) x e = passed (x == id.0) (decl.Name id c args result) (declaration_in ds x) (other_number x id.0 (or_first (id.0 == x) _ e)) (not_declared ds x (or_second (id.0 == x) _ e))
not_declared (decl.Equation n ∷ ds) x e = not_declared ds x e
not_declared (decl.Equiv id n ∷ ds) x e = passed (x == id.0) (decl.Equiv id n) (declaration_in ds x) (other_number x id.0 (or_first (id.0 == x) _ e)) (not_declared ds x (or_second (id.0 == x) _ e))
not_declared (decl.Query n ∷ ds) x e = not_declared ds x e

pub is_new : (ds : List Decl) (h : Heard) (r : Option NodeId) (hs : List Heard) → AreDistinct (flat_map names_of ds ++ flat_map names_by (h ∷ hs)) → IsNew ds (decl_of h r)
is_new ds (heard.Named id c sort) r hs d = not_declared ds id (d (flat_map names_of ds) id (flat_map names_by hs) refl)
is_new ds heard.Equation r hs d = tt
is_new ds (heard.Equiv id) r hs d = not_declared ds id (d (flat_map names_of ds) id (flat_map names_by hs) refl)
is_new ds heard.Query r hs d = tt

-- the next of a list

drop_next : {A : Type 0} (xs : List A) (d : A) (k : ℕ) → k < length xs → drop k xs ≡ get_or xs k d ∷ drop (k + 1) xs
drop_next [] d k l = absurd (omega arith)
drop_next (x ∷ xs) d zero l = refl
drop_next (x ∷ xs) d (suc k) l = let e : suc k + 1 ≡ suc (k + 1) = omega arith in drop_next xs d k (omega arith) ∙ ap (λ n. get_or xs k d ∷ drop n (x ∷ xs)) (sym e)

names_last : (ds : List Decl) (d : Decl) → flat_map names_of (ds ++ d ∷ []) ≡ flat_map names_of ds ++ names_of d
names_last [] d = append-nil (names_of d)
names_last (x ∷ ds) d = ap (λ l. names_of x ++ l) (names_last ds d) ∙ sym (append_assoc (names_of x) (flat_map names_of ds) (names_of d))

-- what is left, at a place
pub record Left (list : List Decl) (hs : List Heard) (rs : List (Option NodeId)) (k : ℕ) (total : List Decl) : Type 0 where
  pub named : AllByRecursion IsNameable (drop k hs)
  pub distinct : AreDistinct (flat_map names_of list ++ flat_map names_by (drop k hs))
  pub is : list ++ all_decls (drop k hs) (drop k rs) ≡ total

pub named_at : (list : List Decl) (hs : List Heard) (rs : List (Option NodeId)) (h : Heard) (r : Option NodeId) (k : ℕ) (total : List Decl) → k < length hs → Left list hs rs k total → IsNamed (decl_of (get_or hs k h) r)
named_at list hs rs h r k total l w = is_named (get_or hs k h) r (let e = drop_next hs h k l in let n : AllByRecursion IsNameable (get_or hs k h ∷ drop (k + 1) hs) = subst (AllByRecursion IsNameable) e w.named in n.0)

pub new_at : (list : List Decl) (hs : List Heard) (rs : List (Option NodeId)) (h : Heard) (r : Option NodeId) (k : ℕ) (total : List Decl) → k < length hs → Left list hs rs k total → IsNew list (decl_of (get_or hs k h) r)
new_at list hs rs h r k total l w = is_new list (get_or hs k h) r (drop (k + 1) hs) (subst (λ x. AreDistinct (flat_map names_of list ++ flat_map names_by x)) (drop_next hs h k l) w.distinct)

pub left_goes : (list new : List Decl) (hs : List Heard) (rs : List (Option NodeId)) (h : Heard) (r : Option NodeId) (k : ℕ) (total : List Decl) → k < length hs → k < length rs → Left list hs rs k total → new ≡ list ++ decl_of (get_or hs k h) (get_or rs k r) ∷ [] → Left new hs rs (k + 1) total
unfolding all_decls
left_goes list new hs rs h r k total l m w e =
    let d = decl_of (get_or hs k h) (get_or rs k r) in
    let n : AllByRecursion IsNameable (get_or hs k h ∷ drop (k + 1) hs) = subst (AllByRecursion IsNameable) (drop_next hs h k l) w.named in
    record {
      named = n.1;
      distinct =
          subst AreDistinct
          (ap (λ x. flat_map names_of list ++ flat_map names_by x) (drop_next hs h k l)
          ∙ (sym (append_assoc (flat_map names_of list) (names_by (get_or hs k h)) (flat_map names_by (drop (k + 1) hs)))
          ∙ ap (λ x. x ++ flat_map names_by (drop (k + 1) hs)) (ap (λ x. flat_map names_of list ++ x) (sym (names_same (get_or hs k h) (get_or rs k r))) ∙ (sym (names_last list d) ∙ ap (flat_map names_of) (sym e)))))
          w.distinct;
      is =
          ap (λ x. x ++ all_decls (drop (k + 1) hs) (drop (k + 1) rs)) e
          ∙ (append_assoc list (d ∷ []) (all_decls (drop (k + 1) hs) (drop (k + 1) rs))
          ∙ (ap (λ x. list ++ x) (sym (ap₂ all_decls (drop_next hs h k l) (drop_next rs r k m))) ∙ w.is));
    }

pub left_ends : (list : List Decl) (hs : List Heard) (rs : List (Option NodeId)) (k : ℕ) (total : List Decl) → length hs ≤ k → Left list hs rs k total → list ≡ total
unfolding all_decls
left_ends list hs rs k total l w = sym (append-nil list) ∙ (sym (ap (λ x. list ++ all_decls x (drop k rs)) (drop_all k hs l)) ∙ w.is)

pub longer : (list new : List Decl) (d : Decl) → new ≡ list ++ d ∷ [] → length new ≡ length list + 1
longer list new d e = ap length e ∙ length-append list (d ∷ [])
