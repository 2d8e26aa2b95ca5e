-- Nodes that were opened, and the first that isn't.
use Rattle.std.proofs.Common.{◌≡◌, ◌≤◌, ◌++◌, ◌∷◌, ◌∙◌, Bool, true, false, List, [], ℕ, Option, Some, None, ap, arith, append-nil, append_assoc, inl, inr, length, refl, subst, sym, Vec}
use Rattle.std.specs.Prelude.{IfOk, Result, Ok, Err, is_some, map, min, replicate, take}
use Rattle.std.specs.Global.{Global}
use Rattle.std.specs.Option.{option_and_then, option_or}
use Rattle.std.proofs.lemmas.List.{length-replicate, length-take, take-map, take_min}
use Rattle.base_device.specs.declared.told.Told.{Told}
use Rattle.bench_nodes.specs.Acts.{AreBooksOf}
use Rattle.bench_nodes.specs.Acts as acts
use Rattle.bench_nodes.specs.Crossings.{first_in}
use Rattle.bench_nodes.specs.declared.node.Node.{Node}
use Rattle.bench_open.specs.Faults.{IsErrorFor}
use Rattle.bench_open.specs.Given.{config_of}
use Rattle.bench_setup.specs.declared.setups.Setup.{Setup}
use Rattle.bench_spec.specs.Opening.{Config, laws_of, opening_refusal, settings_of}
use Rattle.bench_spec.specs.Taken.{Run, opened}
use Rattle.bench_spec.specs.declared.opening.OpeningError.{OpeningError}
use Rattle.fault_text.specs.declared.spots.RowPlace.{RowPlace}
use Rattle.tab_law.specs.Books.{Laws}
use Rattle.cmd_bench.specs.Nodes.{AreOpenNodes, AreOpened, IsEnded, IsNodesRun, IsOpenNode, IsOpened, IsRunOnOpen, node_refusal, opened_by}
use Rattle.bench_setup.specs.Opening.{opening_text_at, opening_told, unbound_at}
use Rattle.cmd_bench.specs.declared.nodes.AllOpened.{AllOpened}
use Rattle.cmd_bench.specs.declared.nodes.AllOpened.TheVariants as all
use Rattle.cmd_bench.specs.declared.nodes.Ended.{Ended}
use Rattle.cmd_bench.specs.declared.nodes.Opened.{Opened}
use Rattle.cmd_bench.specs.declared.nodes.Opened.TheVariants as tried
use Rattle.cmd_bench.specs.declared.shown.Shown.{Shown}
use Rattle.cmd_bench.proofs.BookLemmas.{same_books}
use Rattle.cmd_bench.proofs.RunLemmas.{reason_of, told_at}

-- its own registries
pub own_is : {R : Type 0} (book : R → Laws) (registries : List R) (shards count : ℕ) → count ≡ min shards (length registries)
    → map book (take count registries) ≡ take shards (map book registries)
own_is book registries shards count is =
    ap (λ (n : ℕ). map book (take n registries)) is ∙ ap (map book) (take_min shards registries) ∙ sym (take-map book shards registries)

-- a node whose bench was opened with its own registries
pub open_is : (books own : List Laws) (setup : Setup) (node : Node) → own ≡ take setup.bench.shards books
    → opening_refusal (config_of setup.bench own) ≡ None → node.host ≡ setup.node.identity.host → node.listens ≡ is_some setup.node.listen
    → node.accounts.items ≡ map (λ account. account.id) setup.bench.accounts.items
    → node.core ≡ opened (settings_of (config_of setup.bench own)) → IsOpenNode books setup node
open_is books own setup node are none host listens accounts core = record {
  could = subst (λ (b : List Laws). opening_refusal (config_of setup.bench b) ≡ None) are none;
  host = host;
  listens = listens;
  accounts = accounts;
  core = subst (λ (b : List Laws). node.core ≡ opened (settings_of (config_of setup.bench b))) are core;
}

-- one whose opening is refused
told_of : (config : Config) (error : OpeningError) (text : List ℕ) → opening_refusal config ≡ Some error
    → opening_text_at (laws_of config) (unbound_at config) error ≡ Some text → opening_told config ≡ Some text
told_of config error text is told = ap (option_and_then (opening_text_at (laws_of config) (unbound_at config))) is ∙ told

pub refused_is : (books own : List Laws) (setup : Setup) (place : Option RowPlace) (error : OpeningError) (text : List ℕ) → own ≡ take setup.bench.shards books
    → place ≡ unbound_at (config_of setup.bench own) → IsErrorFor (opening_refusal (config_of setup.bench own)) error
    → opening_text_at (laws_of (config_of setup.bench own)) place error ≡ Some text → node_refusal books setup ≡ Some text
refused_is books own setup place error text are there for told =
    let config : Config = config_of setup.bench own in
    let told_there : opening_text_at (laws_of config) (unbound_at config) error ≡ Some text = told_at config place error text there told in
    subst (λ (b : List Laws). opening_told (config_of setup.bench b) ≡ Some text) are
    (told_of config error text (reason_of config error text for told_there) told_there)

-- no node yet
pub open_none : {R : Type 0} (registries : List R) (book : R → Laws) (nodes : List Node) → nodes ≡ [] → AreOpenNodes (map book registries) [] nodes
open_none registries book nodes none = subst (λ (ns : List Node). AreOpenNodes (map book registries) [] ns) (sym none) tt

-- one node more
pub open_more : (books : List Laws) (setups : List Setup) (nodes : List Node) (setup : Setup) (node : Node) → AreOpenNodes books setups nodes
    → IsOpenNode books setup node → AreOpenNodes books (setups ++ setup ∷ []) (nodes ++ node ∷ [])
open_more books [] [] setup node are is = (is, tt)
open_more books [] (other ∷ nodes) setup node are is = absurd are
open_more books (first ∷ setups) [] setup node are is = absurd are
open_more books (first ∷ setups) (other ∷ nodes) setup node are is = (are.0, open_more books setups nodes setup node are.1 is)

-- of nodes that were opened none is refused
none_first : (f : Setup → Option (List ℕ)) (setup : Setup) (rest : List Setup) → f setup ≡ None → first_in f (setup ∷ rest) ≡ first_in f rest
none_first f setup rest none = ap (λ (o : Option (List ℕ)). option_or o (first_in f rest)) none

could_none : (books : List Laws) (setup : Setup) (node : Node) → IsOpenNode books setup node → node_refusal books setup ≡ None
could_none books setup node is = ap (option_and_then (opening_text_at (laws_of (opened_by books setup.bench)) (unbound_at (opened_by books setup.bench)))) is.could

pub refused_behind : (books : List Laws) (setups : List Setup) (nodes : List Node) (rest : List Setup) → AreOpenNodes books setups nodes
    → first_in (node_refusal books) (setups ++ rest) ≡ first_in (node_refusal books) rest
refused_behind books [] nodes rest are = refl
refused_behind books (setup ∷ setups) [] rest are = absurd are
refused_behind books (setup ∷ setups) (node ∷ nodes) rest are =
    none_first (node_refusal books) setup (setups ++ rest) (could_none books setup node are.0) ∙ refused_behind books setups nodes rest are.1

pub refused_here : (books : List Laws) (setup : Setup) (rest : List Setup) (text : List ℕ) → node_refusal books setup ≡ Some text
    → first_in (node_refusal books) (setup ∷ rest) ≡ Some text
refused_here books setup rest text is = ap (λ (o : Option (List ℕ)). option_or o (first_in (node_refusal books) rest)) is

-- of setups that are gone through: one more was opened
pub opens_more : (books : List Laws) (whole done left left' : List Setup) (nodes nodes' : List Node) (setup : Setup) (node : Node) (made : Opened)
    → done ++ left ≡ whole → AreOpenNodes books done nodes → left ≡ setup ∷ left' → IsOpened books setup made → made ≡ tried.Node node → nodes' ≡ nodes ++ node ∷ []
    → (done' : List Setup) × (done' ++ left' ≡ whole) × AreOpenNodes books done' nodes'
opens_more books whole done left left' nodes nodes' setup node made joined are here opened is pushed = (
  done ++ setup ∷ [],
  append_assoc done (setup ∷ []) left' ∙ ap (λ (setups : List Setup). done ++ setups) (sym here) ∙ joined,
  subst (λ (ns : List Node). AreOpenNodes books (done ++ setup ∷ []) ns) (sym pushed)
      (open_more books done nodes setup node are (subst (λ (o : Opened). IsOpened books setup o) is opened)),
)

-- one is refused, the first
pub refuses_first : (books : List Laws) (whole done left left' : List Setup) (nodes : List Node) (setup : Setup) (text : Vec ℕ Global) (made : Opened)
    → done ++ left ≡ whole → AreOpenNodes books done nodes → left ≡ setup ∷ left' → IsOpened books setup made → made ≡ tried.Refused text
    → first_in (node_refusal books) whole ≡ Some text.items
refuses_first books whole done left left' nodes setup text made joined are here opened is =
    subst (λ (setups : List Setup). first_in (node_refusal books) setups ≡ Some text.items) joined
    (ap (λ (setups : List Setup). first_in (node_refusal books) (done ++ setups)) here
    ∙ refused_behind books done nodes (setup ∷ left') are
    ∙ refused_here books setup left' text.items (subst (λ (o : Opened). IsOpened books setup o) is opened))

-- or all were opened
pub opens_all : (books : List Laws) (whole done left : List Setup) (nodes : List Node) → done ++ left ≡ whole → AreOpenNodes books done nodes → left ≡ []
    → AreOpenNodes books whole nodes
opens_all books whole done left nodes joined are none =
    subst (λ (setups : List Setup). AreOpenNodes books setups nodes)
    (sym (append-nil done) ∙ ap (λ (setups : List Setup). done ++ setups) (sym none) ∙ joined) are

-- the registries of nodes that were opened
record AreOwn (books : List Laws) (run : Run) : Type 0 where
  laws : take run.settings.node.shards books ≡ replicate run.settings.node.shards run.settings.node.laws
  enough : run.settings.node.shards ≤ length books

count_within : (books own : List Laws) (count : ℕ) (laws : Laws) → own ≡ take count books → own ≡ replicate count laws → count ≤ length books
count_within books own count laws taken same =
    let long : length own ≡ min count (length books) = ap length taken ∙ length-take count books in
    let exact : length own ≡ count = ap length same ∙ length-replicate count laws in
    omega arith

own_books : (books : List Laws) (setup : Setup) (node : Node) → IsOpenNode books setup node → AreOwn books node.core
own_books books setup node is =
    let own : List Laws = take setup.bench.shards books in
    let same : own ≡ replicate setup.bench.shards (laws_of (config_of setup.bench own)) = same_books setup.bench own is.could in
    let there : AreOwn books (opened (settings_of (opened_by books setup.bench))) =
    record { laws = same; enough = count_within books own setup.bench.shards (laws_of (config_of setup.bench own)) refl same } in
    subst (AreOwn books) (sym is.core) there

pub books_of : (books : List Laws) (setups : List Setup) (nodes : List Node) → AreOpenNodes books setups nodes → AreBooksOf books (acts.settings_of nodes)
books_of books [] [] are = record { each = tt; enough = tt }
books_of books [] (node ∷ nodes) are = absurd are
books_of books (setup ∷ setups) [] are = absurd are
books_of books (setup ∷ setups) (node ∷ nodes) are =
    let own = own_books books setup node are.0 in
    let rest = books_of books setups nodes are.1 in
    record { each = (own.laws, rest.each); enough = (own.enough, rest.enough) }

are_there : (books : List Laws) (setups : List Setup) (made : AllOpened) (nodes : Vec Node Global) (there : List Node) → AreOpened books setups made → made ≡ all.Nodes nodes
    → there ≡ nodes.items → AreOpenNodes books setups there
are_there books setups made nodes there opened is same =
    subst (λ (ns : List Node). AreOpenNodes books setups ns) (sym same) (subst (λ (o : AllOpened). AreOpened books setups o) is opened)

pub books_there : (books : List Laws) (setups : List Setup) (made : AllOpened) (nodes : Vec Node Global) (there : List Node) → AreOpened books setups made → made ≡ all.Nodes nodes
    → there ≡ nodes.items → AreBooksOf books (acts.settings_of there)
books_there books setups made nodes there opened is same = books_of books setups there (are_there books setups made nodes there opened is same)

-- a run on nodes that were opened is one on the nodes of a CONFIG
run_is : (books : List Laws) (cut : ℕ) (setups : List Setup) (script : List ℕ) (shown : Shown) (nodes new : List Node) (text : List ℕ) (refused : Bool) → AreOpenNodes books setups nodes
    → IsRunOnOpen cut nodes script shown new text refused → IsNodesRun books cut setups script shown new text refused
run_is books cut setups script shown nodes new text true are run = inr (record { nodes = nodes; are = are; run = run })
run_is books cut setups script shown nodes new text false are run = record { nodes = nodes; are = are; run = run }

pub ran_there : {E : Type 0} (books : List Laws) (cut : ℕ) (setups : List Setup) (script : List ℕ) (shown : Shown) (made : AllOpened) (nodes : Vec Node Global) (result : Result Ended E)
    → AreOpened books setups made → made ≡ all.Nodes nodes
    → IfOk result (λ ended. IsRunOnOpen cut nodes.items script shown ended.nodes.items ended.run.text.items ended.run.refused)
    → IfOk result (IsEnded books cut setups script shown)
ran_there books cut setups script shown made nodes (Err e) opened is run = tt
ran_there books cut setups script shown made nodes (Ok ended) opened is run =
    run_is books cut setups script shown nodes.items ended.nodes.items ended.run.text.items ended.run.refused (are_there books setups made nodes nodes.items opened is refl) run

-- a node that is not opened, as it is told
refused_first : (books : List Laws) (cut : ℕ) (setups : List Setup) (script : List ℕ) (shown : Shown) (new : List Node) (outcome : Told) (text : List ℕ)
    → first_in (node_refusal books) setups ≡ Some text → outcome.text.items ≡ text → outcome.refused ≡ true
    → IsNodesRun books cut setups script shown new outcome.text.items outcome.refused
refused_first books cut setups script shown new outcome text first told is =
    let there : IsNodesRun books cut setups script shown new outcome.text.items true = inl (first ∙ ap Some (sym told)) in
    subst (λ (b : Bool). IsNodesRun books cut setups script shown new outcome.text.items b) (sym is) there

pub refused_there : (books : List Laws) (cut : ℕ) (setups : List Setup) (script : List ℕ) (shown : Shown) (new : List Node) (made : AllOpened) (text : Vec ℕ Global) (outcome : Told)
    → AreOpened books setups made → made ≡ all.Refused text → outcome ≡ record { text = text; refused = true }
    → IsNodesRun books cut setups script shown new outcome.text.items outcome.refused
refused_there books cut setups script shown new made text outcome opened is told =
    refused_first books cut setups script shown new outcome text.items (subst (λ (o : AllOpened). AreOpened books setups o) is opened)
    (ap (λ (o : Told). o.text.items) told) (ap (λ (o : Told). o.refused) told)
