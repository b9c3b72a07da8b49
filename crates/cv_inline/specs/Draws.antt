-- The names and labels that are drawn for the next game, and their order. This profile's own.
use Rattle.std.specs.Prelude.{ℕ, zero, suc, max, Bool, true, false, ◌&&◌, ◌==◌, nat_lt, not, if◌then◌else◌, List, [], ◌∷◌, ◌++◌, map, filter, flat_map, length, reverse, codes}
use Rattle.std.specs.List.{list_any}
use Rattle.std.specs.Fmt.{decimal}
use Rattle.cv_lex.specs.Lexis.{value_of}
use Rattle.cv_syntax_trees.specs.declared.head.Head.TheVariants.{New, Let, If, Find, Branch, Cons, Binder}
use Rattle.cv_syntax_trees.specs.Tree.{Tree, Empty, Node, first_place, second_place}
use Rattle.cv_meaning.specs.contexts.Groups.{Group}
use Rattle.cv_meaning.specs.contexts.Bodies.{body_place}
use Rattle.cv_meaning.specs.contexts.Roles.{Role, TheKeyName, Variable, Index}
use Rattle.cv_meaning.specs.contexts.Inlined.{Drawn, Caller}
use Rattle.cv_inline.specs.NextGame.{Calling, callers_of}

-- What is drawn, in order: for the key, and then for each site by number. There the arguments come first and
-- then the body, in the order of its text; at a find the label and the indices of all its branches come before
-- its bodies. Whatever stands in the text counts, also what doesn't come into the game.

-- a name: what for, and from which name
pub record Draw : Type 0 where
  pub role : Role
  pub base : ℕ

-- the indices of a branch for calls of a site, from number j on
abbrev pub branch_draws : (c place other branch u : ℕ) → (j : ℕ) → List (ℕ × ℕ) → List Draw
branch_draws c q o k u j [] = []
branch_draws c q o k u j (r ∷ rs) = record { role = Index c q o k j; base = u } ∷ branch_draws c q o k u (suc j) rs

-- of the branches of a find, from number k on, those that go over the calls of a site
unfoldable pub index_draws : (c place : ℕ) → Caller → (k : ℕ) → Tree → List Draw
index_draws c q s k (Node Cons (Node Branch (Node (Binder u n) x y) rest) more) =
    (if s.bound == n then branch_draws c q s.number k u 0 s.replications else []) ++ index_draws c q s (suc k) more
index_draws c q s k _ = []

unfoldable mutual
  -- the names that are drawn for a body at a place; one that is bound twice stands twice
  pub body_draws : List Caller → (c place : ℕ) → Tree → List Draw
  body_draws ss c q (Node (New z T) a b) = record { role = Variable c z; base = z } ∷ body_draws ss c (second_place q (New z T) a) b
  body_draws ss c q (Node (Let z T) a b) = record { role = Variable c z; base = z } ∷ body_draws ss c (second_place q (Let z T) a) b
  body_draws ss c q (Node If a (Node h b (Node j e f))) =
      body_draws ss c (first_place (second_place q If a) h) b ++ body_draws ss c (first_place (second_place (second_place q If a) h b) j) e
  body_draws ss c q (Node (Find l) a b) =
      flat_map (λ s. index_draws c q s 0 a) ss ++ (branches_draws ss c (first_place q (Find l)) a ++ body_draws ss c (second_place q (Find l) a) b)
  body_draws ss c q m = []

  -- for the bodies of branches
  pub branches_draws : List Caller → (c place : ℕ) → Tree → List Draw
  branches_draws ss c r (Node Cons (Node Branch us (Node Cons cells (Node Cons m body))) more) =
      body_draws ss c (body_place r Cons Branch us Cons cells Cons m) body ++ branches_draws ss c (second_place r Cons (Node Branch us (Node Cons cells (Node Cons m body)))) more
  branches_draws ss c r _ = []

abbrev pub argument_draws : (c : ℕ) → List (ℕ × ℕ) → List Draw
argument_draws c xs = map (λ (x : ℕ × ℕ). record { role = Variable c x.0; base = x.0 }) xs

abbrev pub site_draws : List Caller → Calling → List Draw
site_draws ss s = argument_draws s.caller.number s.function.arguments ++ body_draws ss s.caller.number 0 s.function.body

abbrev pub same_role : Role → Role → Bool
same_role TheKeyName TheKeyName = true
same_role (Variable s v) (Variable r w) = (s == r) && (v == w)
same_role (Index s q o b k) (Index r p n c j) = (s == r) && ((q == p) && ((o == n) && ((b == c) && (k == j))))
same_role _ _ = false

-- the first of each role
abbrev pub each_role_once : List Draw → List Draw
each_role_once [] = []
each_role_once (d ∷ ds) = d ∷ filter (λ (e : Draw). not (same_role e.role d.role)) (each_role_once ds)

abbrev pub draws_of : Group → List Calling → List Draw
draws_of g cs = record { role = TheKeyName; base = g.key.0 } ∷ each_role_once (flat_map (site_draws (callers_of cs)) cs)

-- the finds of a body at a place, in the order of the text
unfoldable pub finds_in : (place : ℕ) → Tree → List ℕ
finds_in q Empty = []
finds_in q (Node (Find l) a b) = q ∷ (finds_in (first_place q (Find l)) a ++ finds_in (second_place q (Find l) a) b)
finds_in q (Node h a b) = finds_in (first_place q h) a ++ finds_in (second_place q h a) b

-- for each find of each site a label is drawn: the site, and the place in its body
abbrev pub label_draws : List Calling → List (ℕ × ℕ)
label_draws cs = flat_map (λ (c : Calling). map (λ q. (c.caller.number, q)) (finds_in 0 c.function.body)) cs

-- the labels: the least numbers that no find of the game has

unfoldable pub labels_in : Tree → List ℕ
labels_in Empty = []
labels_in (Node (Find l) a b) = l ∷ (labels_in a ++ labels_in b)
labels_in (Node h a b) = labels_in a ++ labels_in b

-- the least number from n on that isn't taken; among as many as are taken and one more there is one
abbrev pub least_free : (is_taken : ℕ → Bool) → (tries n : ℕ) → ℕ
least_free is_taken zero n = n
least_free is_taken (suc k) n = if is_taken n then least_free is_taken k (suc n) else n

-- so many labels, from a number on
abbrev pub labels_from : List ℕ → ℕ → List (ℕ × ℕ) → List ℕ
labels_from taken n [] = []
labels_from taken n (d ∷ ds) = let l : ℕ = least_free (λ k. list_any (λ t. t == k) taken) (length taken) n in l ∷ labels_from taken (suc l) ds

-- the texts: base, `_` and a number, which counts up over all names and passes over names that are taken

abbrev pub numbered_text : List ℕ → ℕ → List ℕ
numbered_text base n = base ++ codes "_" ++ decimal n

abbrev pub same_text : List ℕ → List ℕ → Bool
same_text [] [] = true
same_text (a ∷ ts) (b ∷ us) = (a == b) && same_text ts us
same_text _ _ = false

abbrev pub is_among : List (List ℕ) → List ℕ → Bool
is_among ts t = list_any (same_text t) ts

abbrev pub texts_from : (taken : List (List ℕ)) → ℕ → (bases : List (List ℕ)) → List (List ℕ)
texts_from taken n [] = []
texts_from taken n (b ∷ bs) =
    let m : ℕ = least_free (λ k. is_among taken (numbered_text b k)) (length taken) n in numbered_text b m ∷ texts_from taken (suc m) bs

-- the number with which a text ends behind `_`: at most nine digits, without a leading zero; else 0

abbrev pub is_digit : ℕ → Bool
is_digit c = nat_lt 47 c && nat_lt c 58

abbrev pub number_written : List ℕ → ℕ
number_written [] = 0
number_written (d ∷ ds) = if d == 48 then 0 else value_of (d ∷ ds)

-- the text's end, read backwards: the digits that were read, and the rest
abbrev pub number_behind : (digits rest : List ℕ) → ℕ
number_behind ds [] = 0
number_behind ds (c ∷ cs) = if is_digit c then number_behind (c ∷ ds) cs else if (c == 95) && nat_lt (length ds) 10 then number_written ds else 0

abbrev pub end_number : List ℕ → ℕ
end_number t = number_behind [] (reverse t)

abbrev pub greatest_end : List (List ℕ) → ℕ
greatest_end [] = 0
greatest_end (t ∷ ts) = max (end_number t) (greatest_end ts)

-- the texts of the names that are drawn, where these are the names of file and game
abbrev pub drawn_texts : (taken bases : List (List ℕ)) → List (List ℕ)
drawn_texts taken bases = texts_from taken (suc (greatest_end taken)) bases

-- the drawn names by what they are drawn for, where names and labels are given in the order of the draws

abbrev pub name_for : {A : Type 0} → (A → A → Bool) → List A → List ℕ → A → ℕ
name_for same (d ∷ ds) (x ∷ xs) r = if same d r then x else name_for same ds xs r
name_for same _ _ r = 0

-- what a name is drawn for
abbrev pub drawn_for : {A : Type 0} → (other : ℕ → A) → List A → List ℕ → ℕ → A
drawn_for other (d ∷ ds) (x ∷ xs) y = if y == x then d else drawn_for other ds xs y
drawn_for other _ _ y = other y

-- a find, by its site and its place in the body
abbrev pub same_find : ℕ × ℕ → ℕ × ℕ → Bool
same_find f g = (f.0 == g.0) && (f.1 == g.1)

abbrev pub roles_of : List Draw → List Role
roles_of ds = map (λ (d : Draw). d.role) ds

abbrev pub drawn_by : List Draw → (names : List ℕ) → List (ℕ × ℕ) → (labels : List ℕ) → Drawn
drawn_by ds names fs labels =
    record {
      key = name_for same_role (roles_of ds) names TheKeyName;
      variable = λ s v. name_for same_role (roles_of ds) names (Variable s v);
      label = λ s q. name_for same_find fs labels (s, q);
      index = λ s q o b k. name_for same_role (roles_of ds) names (Index s q o b k);
    }

-- it is among what is drawn
abbrev pub is_drawn : {A : Type 0} → (A → A → Bool) → List A → A → Bool
is_drawn same ds r = list_any (λ d. same d r) ds
