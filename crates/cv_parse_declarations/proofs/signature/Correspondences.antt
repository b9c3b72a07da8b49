-- A query is a tree that is there.
use Rattle.std.proofs.Common.{◌≡◌, ◌≢◌, subst, ℕ, Bool, true, false, List, ◌++◌, ap, ◌∙◌}
use Rattle.std.specs.Prelude.{Ok}
use Rattle.cv_syntax_trees.specs.declared.head.Head.TheVariants.{Cons, Query as Correspondence, Secret, SecretOnce}
use Rattle.cv_syntax_trees.specs.Tree.{Tree, Empty, Node, lone}
use Rattle.cv_parse_notation.specs.declared.sign.Sign.{Sign}
use Rattle.cv_parse_notation.specs.declared.sign.Mark.TheVariants as mark
use Rattle.cv_parse_notation.specs.Form.{either, made, note, sign, word, ◌&◌, ◌▸◌, ◌◂◌}
use Rattle.cv_parse_notation.specs.Spells.{next_is, starts}
use Rattle.cv_parse_notation.specs.Reads.{Found, Read, Reader, ◌>>=◌, joined, mapped, pick}
use Rattle.cv_parse_notation.proofs.Sound.{bind_ok, same_found}
use Rattle.cv_parse_grammar.specs.declared.role.Role.{Role}
use Rattle.cv_parse_grammar.specs.declared.role.Role.TheVariants.{BindsLocal, Enters, Leaves, Unchecked}
use Rattle.cv_parse_grammar.specs.declared.role.Region.TheVariants.{InQuery}
use Rattle.cv_parse_grammar.specs.Phrases.{Phrase, inside, listed, vars}
use Rattle.cv_parse_grammar.specs.Rules.{heads}
use Rattle.cv_parse_grammar.specs.Declarations.{correspondence, event, right_side, secrecy}
use Rattle.cv_parse_terms.specs.Gives.{read_in}
use Rattle.cv_parse_terms.proofs.Saying.{mapped_all, second_all}

not_empty : {A : Type 0} (n : ℕ) (f : Phrase A) (g : A → Tree) → ((a : A) → g a ≢ Empty) → (ts : List Sign) (x : Found Role Tree) → read_in n (made g f) ts ≡ Ok x → x.value ≢ Empty
not_empty n f g h ts x e i =
    let b = bind_ok (read_in n f ts) (mapped g) x e in
    let s = same_found (record { value = g b.0.value; uses = b.0.uses; rest = b.0.rest }) x b.2 in
    h b.0.value (ap (λ y. y.value) s ∙ i)

-- what a reader gives is there
abbrev GivesTrees : Reader Role Tree → Type 0
GivesTrees p = (ts : List Sign) (x : Found Role Tree) → p ts ≡ Ok x → x.value ≢ Empty

either_gives : (b : Bool) (p q : Reader Role Tree) (ts : List Sign) (x : Found Role Tree) → GivesTrees p → GivesTrees q → pick b p q ts ≡ Ok x → x.value ≢ Empty
either_gives true p q ts x f g e = f ts x e
either_gives false p q ts x f g e = g ts x e

secrecy_gives : (n : ℕ) → GivesTrees (read_in n secrecy)
secrecy_gives n ts x e =
    either_gives (next_is (starts heads (made (λ x. lone (Secret x)) (mark.Secret ▸ word Unchecked))) ts) (read_in n (made (λ x. lone (Secret x)) (mark.Secret ▸ word Unchecked))) (read_in n (made (λ x. lone (SecretOnce x)) (mark.SecretOnce ▸ word Unchecked))) ts x
    (not_empty n (mark.Secret ▸ word Unchecked) (λ x. lone (Secret x)) (λ x e. absurd (cc))) (not_empty n (mark.SecretOnce ▸ word Unchecked) (λ x. lone (SecretOnce x)) (λ x e. absurd (cc))) e

query_gives : (n : ℕ) → GivesTrees (read_in n (either secrecy correspondence))
query_gives n ts x e =
    either_gives (next_is (starts heads secrecy) ts) (read_in n secrecy) (read_in n correspondence) ts x (secrecy_gives n)
    (not_empty n (listed (vars BindsLocal ◂ mark.Semicolon) & (event & (mark.Implies ▸ right_side))) (λ (l, (e, right)). Node Correspondence l (Node Cons e right)) (λ x e. absurd (cc))) e

first_all : {A B : Type 0} (r : Read Role A) (q : Reader Role B) (y : Found Role (A × B)) (P : A → Type 0) → ((x : Found Role A) → r ≡ Ok x → P x.value) → (r >>= λ x. q x.rest >>= joined x) ≡ Ok y → P y.value.0
first_all r q y P h i =
    let b = bind_ok r (λ x. q x.rest >>= joined x) y i in
    let c = bind_ok (q b.0.rest) (joined b.0) y b.2 in
    let s = same_found (record { value = (b.0.value, c.0.value); uses = b.0.uses ++ c.0.uses; rest = c.0.rest }) y c.2 in
    subst P (ap (λ z. z.value.0) s) (h b.0 b.1)

abbrev asked : Phrase Tree
asked = either secrecy correspondence

-- what a declaration of a query gives is there
pub query_there : (n : ℕ) → GivesTrees (read_in n (mark.QueryWord ▸ inside InQuery asked ◂ mark.Dot))
query_there n ts y e =
    let there = λ (t : Tree). t ≢ Empty in
    mapped_all (λ p. p.1) (read_in n (sign mark.QueryWord & (inside InQuery asked ◂ mark.Dot)) ts) y there
    (λ x i. second_all (read_in n (sign mark.QueryWord) ts) (read_in n (inside InQuery asked ◂ mark.Dot)) x there
    (λ us z j. mapped_all (λ p. p.0) (read_in n (inside InQuery asked & sign mark.Dot) us) z there
    (λ x i. first_all (read_in n (inside InQuery asked) us) (read_in n (sign mark.Dot)) x there
    (λ z j. mapped_all (λ (m, (a, k)). a) (read_in n (note (Enters InQuery) & (asked & note Leaves)) us) z there
    (λ x i. second_all (read_in n (note (Enters InQuery)) us) (read_in n (asked & note Leaves)) x (λ c. c.0 ≢ Empty)
    (λ vs z j. first_all (read_in n asked vs) (read_in n (note Leaves)) z there (λ w l. query_gives n vs w l) j) i) j) i) j) i) e
