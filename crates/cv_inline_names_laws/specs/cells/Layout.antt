-- A context and the right bodies of its calls as the grammar has them: what stands in a term defines nothing, and a name has one type
-- wherever a game, or a function, defines it. This profile's own.
use Rattle.std.specs.Prelude.{◌≡◌, ℕ, suc, Bool, true, false, ◌&&◌, ◌==◌, if◌then◌else◌, List, [], length, Option, Some, None}
use Rattle.std.specs.List.{AllByRecursion}
use Rattle.cv_syntax_trees.specs.declared.head.Head.{Head}
use Rattle.cv_syntax_trees.specs.declared.head.Head.TheVariants.{In, Out, Event, New, Let, If, Find, Branch, Leaf, Read, Apply, Eq, And, Or, Not, Yes, No, Cons, Binder, Name, Key, Call}
use Rattle.cv_syntax_trees.specs.Tree.{Tree, Empty, Node, first_place, second, second_place}
use Rattle.cv_meaning.specs.Side.{CallNumber, no_side}
use Rattle.cv_meaning.specs.contexts.Groups.{Function}
use Rattle.cv_meaning.specs.contexts.Bodies.{body_place, function_called}
use Rattle.cv_meaning.specs.contexts.Roles.{Plain, Gone}
use Rattle.cv_meaning.specs.contexts.Inlined.{Caller}
use Rattle.cv_inline.specs.NextGame.{Calling, callers_of}
use Rattle.cv_inline_laws.specs.runs.Texts.{Text, oracles_in}
use Rattle.cv_syntax_trees.specs.lists.Options.{first_of}

-- the types of the game's names, and of those that the function of a site binds
pub record Types : Type 0 where
  pub game : ℕ → ℕ
  pub at_site : (site name : ℕ) → ℕ

-- terms, and lists of terms and of names

abbrev pub is_term_head : Head → Bool
is_term_head (Leaf x) = true
is_term_head (Read x) = true
is_term_head (Apply f) = true
is_term_head Eq = true
is_term_head And = true
is_term_head Or = true
is_term_head Not = true
is_term_head Yes = true
is_term_head No = true
is_term_head Cons = true
is_term_head (Name x) = true
is_term_head h = false

unfoldable pub is_term : Tree → Bool
is_term Empty = true
is_term (Node h a b) = is_term_head h && (is_term a && is_term b)

-- binders of these types, among terms
unfoldable pub IsPattern : (type : ℕ → ℕ) → Tree → Type 0
IsPattern type Empty = Unit {0}
IsPattern type (Node (Binder y U) a b) = (U ≡ type y) × IsPattern type a × IsPattern type b
IsPattern type (Node h a b) = (is_term_head h ≡ true) × IsPattern type a × IsPattern type b

-- each `new` of the tree has the type of its name
unfoldable pub IsTypedBy : (type : ℕ → ℕ) → Tree → Type 0
IsTypedBy type Empty = Unit {0}
IsTypedBy type (Node (New z U) a b) = (U ≡ type z) × IsTypedBy type a × IsTypedBy type b
IsTypedBy type (Node h a b) = IsTypedBy type a × IsTypedBy type b

-- the type with which a body first chooses a name
unfoldable pub new_type : (name : ℕ) → Tree → Option ℕ
new_type z Empty = None
new_type z (Node (New x U) a b) = if x == z then Some U else first_of (new_type z a) (new_type z b)
new_type z (Node h a b) = first_of (new_type z a) (new_type z b)

abbrev pub type_or_none : Option ℕ → ℕ
type_or_none None = 0
type_or_none (Some U) = U

abbrev pub type_in : Tree → (name : ℕ) → ℕ
type_in body z = type_or_none (new_type z body)

-- right bodies, and the branches of a `find`
unfoldable mutual
  pub is_right_text : Tree → Bool
  is_right_text (Node (New z U) a b) = is_right_text b
  is_right_text (Node (Let z U) a b) = is_term a && is_right_text b
  is_right_text (Node If a (Node Cons b (Node Cons e f))) = is_term a && (is_right_text b && is_right_text e)
  is_right_text (Node (Find l) a b) = are_right_texts a && is_right_text b
  is_right_text m = is_term m

  pub are_right_texts : Tree → Bool
  are_right_texts Empty = true
  are_right_texts (Node Cons (Node Branch (Node (Binder u n) x y) (Node Cons cells (Node Cons m body))) more) = is_term cells && (is_term m && (is_right_text body && are_right_texts more))
  are_right_texts t = false

-- a right function: it chooses nothing besides its body, and there each name with one type
pub record IsRightFunction (f : Function) : Type 0 where
  pub coins : f.coins ≡ []
  pub body : is_right_text f.body ≡ true
  pub typed : IsTypedBy (type_in f.body) f.body

module _ (T : Text) where
  -- a context, and terms in it; the key and what takes an answer are gone in the next game
  unfoldable pub IsContextText : (type : ℕ → ℕ) → Tree → Type 0
  IsContextText ty Empty = Unit {0}
  IsContextText ty (Node (Key x) a b) = (T.role x ≡ Gone) × (is_term a ≡ true) × IsContextText ty b
  IsContextText ty (Node (Call x l) a b) = (T.role x ≡ Gone) × (is_term a ≡ true) × (is_term (second a) ≡ true) × IsContextText ty b
  IsContextText ty (Node (New x U) a b) = (T.role x ≡ Plain) × (U ≡ ty x) × IsContextText ty a × IsContextText ty b
  IsContextText ty (Node (Let x U) a b) = (U ≡ ty x) × (is_term a ≡ true) × IsContextText ty b
  IsContextText ty (Node If a b) = (is_term a ≡ true) × IsContextText ty b
  IsContextText ty (Node (Event e) a b) = (is_term a ≡ true) × IsContextText ty b
  IsContextText ty (Node (Out c) a b) = (is_term a ≡ true) × IsContextText ty b
  IsContextText ty (Node (In c) a b) = IsPattern ty a × IsContextText ty b
  IsContextText ty (Node Branch a b) = IsPattern ty a × IsContextText ty b
  IsContextText ty (Node (Leaf x) a b) = (is_term a ≡ true) × (is_term b ≡ true)
  IsContextText ty (Node (Read x) a b) = (is_term a ≡ true) × (is_term b ≡ true)
  IsContextText ty (Node (Binder y U) a b) = ⊥
  IsContextText ty (Node h a b) = IsContextText ty a × IsContextText ty b

  -- a right body at a place, whose names and indices are drawn
  unfoldable mutual
    pub IsRightText : List Caller → (site place : ℕ) → Tree → Type 0
    IsRightText ss c q (Node (New z U) a b) = (T.has c z ≡ true) × IsRightText ss c (second_place q (New z U) a) b
    IsRightText ss c q (Node (Let z U) a b) = (T.has c z ≡ true) × (is_term a ≡ true) × IsRightText ss c (second_place q (Let z U) a) b
    IsRightText ss c q (Node If a (Node Cons b (Node Cons e f))) =
        (is_term a ≡ true) × IsRightText ss c (first_place (second_place q If a) Cons) b × IsRightText ss c (first_place (second_place (second_place q If a) Cons b) Cons) e
    IsRightText ss c q (Node (Find l) a b) = AreRightBranches ss c q 0 (first_place q (Find l)) a × IsRightText ss c (second_place q (Find l) a) b
    IsRightText ss c q m = is_term m ≡ true

    -- the branches of the find at a place, from this number and place on
    pub AreRightBranches : List Caller → (site find number place : ℕ) → Tree → Type 0
    AreRightBranches ss c q k r (Node Cons (Node Branch (Node (Binder u n) x y) (Node Cons cells (Node Cons m body))) more) =
        AllByRecursion (λ (s : Caller). (s.bound == n) ≡ true → T.opens c q s.number k ≡ true) ss
        × (is_term cells ≡ true) × (is_term m ≡ true)
        × IsRightText ss c (body_place r Cons Branch (Node (Binder u n) x y) Cons cells Cons m) body
        × AreRightBranches ss c q (suc k) (second_place r Cons (Node Branch (Node (Binder u n) x y) (Node Cons cells (Node Cons m body)))) more
    AreRightBranches ss c q k r Empty = Unit {0}
    AreRightBranches ss c q k r t = ⊥

  -- a call's key and its function
  pub record IsCallText (types : Types) (c : Calling) : Type 0 where
    pub key : is_term c.caller.key ≡ true
    pub indices : T.arity c.caller.number ≡ length c.caller.replications
    pub arguments : AllByRecursion (λ (x : ℕ × ℕ). T.has c.caller.number x.0 ≡ true) c.function.arguments
    pub body : IsRightText (callers_of T.calls.callings) c.caller.number 0 c.function.body
    pub typed : IsTypedBy (types.at_site c.caller.number) c.function.body

  -- what a call of the side can draw
  pub record IsTypedFunction (type : ℕ → ℕ) (f : Function) : Type 0 where
    pub coins : AllByRecursion (λ (x : ℕ × ℕ). x.1 ≡ type x.0) f.coins
    pub body : IsTypedBy type f.body

  -- the whole text: no test asks for what the next game has not
  pub record IsLaidOut (types : Types) (context : Tree) : Type 0 where
    pub game : T.g.side ≡ no_side
    pub text : IsContextText types.game context
    pub calls : AllByRecursion (IsCallText types) T.calls.callings
    pub functions : (n : CallNumber) (f : Function) → function_called (oracles_in T) n ≡ Some f → IsTypedFunction (types.at_site n.site) f
