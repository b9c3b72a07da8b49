-- What array scope asks of the nodes of a tree, without the sites before it; what one node binds is distinct.
use Rattle.std.proofs.Common.{◌≡◌, ℕ, Bool, true, false, ◌||◌, ◌==◌, List, refl, ap, arith, eqb-true}
use Rattle.std.specs.List.{AllByRecursion}
use Rattle.cv_syntax.specs.faults.Walk.{IsObeyed}
use Rattle.cv_syntax_trees.specs.declared.head.Head.{Head}
use Rattle.cv_syntax_trees.specs.declared.head.Head.TheVariants.{In, Branch, Binder}
use Rattle.cv_syntax_trees.specs.Declarations.{Declaration}
use Rattle.cv_syntax_trees.specs.Tree.{Tree, Empty, Node, second}
use Rattle.cv_scope_rules.specs.declared.fault.Fault.TheVariants as fault
use Rattle.cv_scope_rules.specs.declared.position.Position.{Position}
use Rattle.cv_scope_rules.specs.declared.position.Position.TheVariants.{Anywhere}
use Rattle.cv_scope_rules.specs.Context.{Context, nothing_known, first_position, second_position, first_context, second_context}
use Rattle.cv_scope_rules.specs.Ranges.{EndBy}
use Rattle.cv_scope_rules.specs.Sites.{Site, Variable, site_of, variable_sites, named_here}
use Rattle.cv_scope_rules.specs.Rules.{Names, IsInScope, BindsNewIndex}
use Rattle.cv_scope_rules.specs.Scope.{IsScopedAt, IsScoped, names_of}
use Rattle.cv_scope_rules.specs.Standing.{Standing, at_root, first_standing, second_standing}
use Rattle.cv_scope_rules.specs.Branches.{Pairs}
use Rattle.cv_scope_rules.proofs.Apart.{IsApart, IsBefore, before_first, before_second, past_end, stand_apart}
use Rattle.cv_scope_rules.specs.Made.{is_bound}

-- the variables of a list of binders are distinct
abbrev pub AreDistinct : Tree → Type 0
AreDistinct (Node (Binder x T) a b) = (is_bound b x ≡ false) × AreDistinct b
AreDistinct t = Unit {0}

abbrev pub BindsDistinct : Head → Tree → Type 0
BindsDistinct (In c) a = AreDistinct (second a)
BindsDistinct Branch a = AreDistinct a
BindsDistinct h a = Unit {0}

pub record NodeAsked (names : Names) (w : Position) (Γ : Context) (h : Head) (a b : Tree) : Type 0 where
  pub scope : IsInScope names w Γ h a b
  pub index : BindsNewIndex names Γ.replications h
  pub distinct : BindsDistinct h a

abbrev pub Asked : Names → Position → Context → Tree → Type 0
Asked names w Γ Empty = Unit {0}
Asked names w Γ (Node h a b) =
    NodeAsked names w Γ h a b × Asked names (first_position w h) (first_context w h Γ) a × Asked names (second_position w h) (second_context w h a Γ) b

abbrev HasOther : ℕ → Site → Type 0
HasOther x e = Variable x ≡ e.name → ⊥

not_bound : (rs : List (ℕ × ℕ)) (p : ℕ) (bs : Tree) (x : ℕ) → AllByRecursion (HasOther x) (variable_sites rs p bs) → is_bound bs x ≡ false
unfolding is_bound
not_bound rs p (Node (Binder y T) a b) x h = go (x == y) refl (not_bound rs p b x h.1)
  where
    go : (c : Bool) → (x == y) ≡ c → is_bound b x ≡ false → (c || is_bound b x) ≡ false
    go true k f = absurd (h.0 (ap Variable (eqb-true x y k)))
    go false k f = f
not_bound rs p bs x h = refl

-- no site of a node is in a branch that is passed
not_passed : (passed rs : List (ℕ × ℕ)) (p x : ℕ) → EndBy p passed → (bs : Tree) → AllByRecursion (IsApart passed (site_of rs p (Variable x))) (variable_sites rs p bs) → AllByRecursion (HasOther x) (variable_sites rs p bs)
not_passed passed rs p x e (Node (Binder y T) a b) h = (λ q. past_end passed p p e (omega arith) (h.0 q).0, not_passed passed rs p x e b h.1)
not_passed passed rs p x e bs h = tt

distinct : (passed rs : List (ℕ × ℕ)) (p : ℕ) → EndBy p passed → (bs : Tree) → Pairs (IsApart passed) (variable_sites rs p bs) → AreDistinct bs
distinct passed rs p e (Node (Binder x T) a b) h = (not_bound rs p b x (not_passed passed rs p x e b h.0), distinct passed rs p e b h.1)
distinct passed rs p e bs h = tt

binds_distinct : (passed rs : List (ℕ × ℕ)) (p : ℕ) → EndBy p passed → (h : Head) (a : Tree) → Pairs (IsApart passed) (named_here rs p h a) → BindsDistinct h a
binds_distinct passed rs p e (In c) a q = distinct passed rs p e (second a) q
binds_distinct passed rs p e Branch a q = distinct passed rs p e a q
binds_distinct passed rs p e h a q = tt

scoped_asked : (names : Names) (s : Standing) (b : Tree) → IsBefore s → IsScopedAt names s b → Asked names s.position s.known b
unfolding IsObeyed
scoped_asked names s Empty m i = tt
scoped_asked names s (Node h a b) m i = (
  record {
    scope = i.0 fault.Unscoped;
    index = (i.0 fault.Replications).2;
    distinct = binds_distinct s.passed s.known.replications s.place m.passed h a (stand_apart s.passed (named_here s.known.replications s.place h a) s.sites (i.0 fault.TwoSites)).1;
  },
  scoped_asked names (first_standing s h a) a (before_first s h a m) i.1,
  scoped_asked names (second_standing s h a) b (before_second s h a m) i.2,
)

pub game_asked : (ds : List Declaration) (game : Tree) → IsScoped ds game → Asked (names_of ds game) Anywhere nothing_known game
game_asked ds game i = scoped_asked (names_of ds game) at_root game (record { sites = tt; passed = tt }) i
