-- Certificates of secrecy with the first condition of each that fails. The names are those of the other worked certificates: 4 is the
-- variable that a query asks for, and 9 and 10 are others.
use Rattle.std.specs.Prelude.{ℕ, true, List, [], ◌∷◌, ◌++◌, ◌≡◌, Option, Some, None}
use Rattle.cv_syntax_trees.specs.declared.head.Head.TheVariants.{BySame, Cons, EventsCertificate, Let, New, Par, Primed, Repl, Secret, SecretCertificate, SecretOnce, SecretPair, Stop, Yes, Yield}
use Rattle.cv_syntax_trees.specs.Builders.{branch, find, input, leaf, output, read}
use Rattle.cv_syntax_trees.specs.Declarations.{Query}
use Rattle.cv_syntax_trees.specs.Tree.{Tree, Empty, Node, chain, lone}
use Rattle.cv_scene.specs.Scenes.{Scene}
use Rattle.cv_query_certificates.specs.Failures.{Failure, first_failure}
use Rattle.cv_query_certificates.specs.Worked.{declarations, eq, fails, line, number, scene_of}

abbrev pub secret : ℕ → Tree
secret x = lone (Secret x)

abbrev pub secret_once : ℕ → Tree
secret_once x = lone (SecretOnce x)

abbrev pub by_form : Tree
by_form = lone SecretCertificate

abbrev pub pair_by : (p q : ℕ) → (lines : List Tree) → Tree
pair_by p q lines = Node SecretPair (number p) (Node Cons (number q) (chain lines))

-- a pair at one place: 1 = 1' by same 1
abbrev pub one_session : (place : ℕ) → Tree
one_session p = pair_by p p (line (eq (leaf 1) (lone (Primed 1))) (Node BySame (number 1) Empty) ∷ [])

abbrev pub by_pairs : List Tree → Tree
by_pairs parts = Node SecretCertificate (chain parts) Empty

abbrev pub by_events : Tree
by_events = lone EventsCertificate

-- new x: 5; .. and let x: 5 = y[1] in ..

abbrev pub choose : ℕ → Tree → Tree
choose x rest = Node (New x 5) Empty rest

abbrev pub copy : (x y : ℕ) → Tree → Tree
copy x y rest = Node (Let x 5) (read y (leaf 1 ∷ [])) rest

-- !1 <= 2 in(3[1], ()); ..
abbrev pub served : Tree → Tree
served rest = Node (Repl 1 2) Empty (input 3 (1 ∷ []) [] rest)

abbrev pub answer : List Tree → Tree
answer ms = output 6 (1 ∷ []) ms (lone Stop)

-- !7 <= 2 in(8[7], (10: 5)); find 14 <= 2 suchthat defined(4[14[7]]) && .. then yield else yield

abbrev pub u : Tree
u = read 14 (leaf 7 ∷ [])

abbrev pub searching : Tree → Tree
searching condition =
    Node (Repl 7 2) Empty (input 8 (7 ∷ []) ((10, 5) ∷ [])
    (find 1 (branch ((14, 2) ∷ []) (read 4 (u ∷ []) ∷ []) condition (lone Yield) ∷ []) (lone Yield)))

-- the variable is chosen, and a `find` asks where
abbrev pub chosen : Scene
chosen = scene_of (Node Par (served (choose 4 (answer []))) (searching (lone Yes)))

-- and compares a value of it
abbrev pub compared : Scene
compared = scene_of (Node Par (served (choose 4 (answer []))) (searching (eq (read 4 (u ∷ [])) (read 10 (leaf 7 ∷ [])))))

-- it is sent
abbrev pub published : Scene
published = scene_of (input 3 [] [] (choose 4 (output 6 [] (leaf 4 ∷ []) (lone Stop))))

-- it copies another one, which is used further in one of three ways: in none, by the copy of a third one, and by an output

abbrev pub copied : Scene
copied = scene_of (served (choose 9 (output 6 (1 ∷ []) [] (input 8 (1 ∷ []) [] (copy 4 9 (answer []))))))

abbrev pub copied_on : Scene
copied_on = scene_of (served (choose 9 (copy 4 9 (copy 10 9 (answer [])))))

abbrev pub source_sent : Scene
source_sent = scene_of (served (choose 9 (copy 4 9 (answer (read 9 (leaf 1 ∷ []) ∷ [])))))

-- it has the value of a constant, or of an index, which is sent before: neither is copied, so the `let` is the first offence

abbrev pub sent_before : ℕ → Tree
sent_before y = served (output 6 (1 ∷ []) (leaf y ∷ []) (input 8 (1 ∷ []) [] (Node (Let 4 5) (leaf y) (answer []))))

abbrev pub constant_sent : Scene
constant_sent = scene_of (sent_before 20)

abbrev pub index_sent : Scene
index_sent = scene_of (sent_before 1)

-- another query asks for the other one
abbrev pub source_asked : Scene
source_asked = record { declarations = declarations ++ Query (secret 9) ∷ []; known = λ y. true; game = served (choose 9 (copy 4 9 (answer []))) }

-- a game, the certificate, and the condition that fails first, for many sessions and for one

abbrev pub SecretCase : Type 0
SecretCase = Scene × Tree × Option Failure × Option Failure

abbrev pub Fails : SecretCase → Type 0
Fails c = (first_failure c.0 (Some (secret 4)) c.1 ≡ c.2) × (first_failure c.0 (Some (secret_once 4)) c.1 ≡ c.3)

abbrev pub secret_cases : List SecretCase
secret_cases =
    (chosen, by_form, None, None)
    ∷ (compared, by_form, fails 7 14, fails 7 14)
    ∷ (published, by_form, fails 7 3, fails 7 3)
    ∷ (published, by_events, fails 2 0, fails 2 0)
    ∷ (copied, by_form, fails 5 5, None)
    ∷ (copied, by_pairs (one_session 5 ∷ []), None, fails 5 5)
    ∷ (copied, by_pairs (lone SecretPair ∷ []), fails 5 5, fails 5 0)
    ∷ (copied, by_pairs (pair_by 5 5 [] ∷ []), fails 5 5, fails 5 5)
    ∷ (copied, by_pairs (one_session 4 ∷ []), fails 5 4, fails 5 4)
    ∷ (copied, by_pairs (one_session 5 ∷ one_session 9 ∷ []), fails 5 9, fails 5 5)
    ∷ (chosen, by_pairs (one_session 5 ∷ []), fails 5 5, fails 5 5)
    ∷ (published, by_pairs (one_session 5 ∷ []), fails 5 5, fails 5 5)
    ∷ (copied_on, by_form, fails 7 7, fails 7 7)
    ∷ (source_sent, by_form, fails 7 7, fails 7 7)
    ∷ (constant_sent, by_form, fails 7 5, fails 7 5)
    ∷ (index_sent, by_form, fails 7 5, fails 7 5)
    ∷ (source_asked, by_form, fails 7 3, fails 7 3)
    ∷ []
