-- Shapes of private steps: what is asked of the tokens of a line, one by one.
use Rattle.std.specs.Prelude.{Bool, ◌&&◌, ◌==◌, nat_lt, List, [], ◌∷◌, length, map, if◌then◌else◌, Option, Some, None, codes, bytes_eq, slice_index}
use Rattle.std.specs.List.{list_all}
use Rattle.std.specs.Str.{byte}
use Rattle.blif_text.specs.declared.NetlistKind.TheVariants.{BadToken, BadLatch, LevelLatch}
use Rattle.fm_base.specs.Names.{Name, is_one_of}
use Rattle.blif_model.specs.Statement.{Binding, Statement, model, instance, latch, end, unnamed, wrong, binding_of}

-- `.model` has one name
abbrev pub model_line : List Name → Statement
model_line (name ∷ []) = model name
model_line _ = unnamed

-- `.end` has nothing after it
abbrev pub end_line : List Name → Statement
end_line [] = end
end_line _ = wrong BadToken

-- both sides of a binding have a byte
abbrev pub is_whole : Binding → Bool
is_whole b = nat_lt 0 (length b.formal) && nat_lt 0 (length b.actual)

-- a `.subckt` line
abbrev pub instance_line : List Name → Statement
instance_line [] = wrong BadToken
instance_line (name ∷ tokens) =
    let bindings = map binding_of tokens in
    if list_all is_whole bindings then instance name bindings else wrong BadToken

-- the token is such a binding
abbrev pub is_binding : Name → Bool
is_binding token = is_whole (binding_of token)

-- an initial value is 0, 1, 2 or 3
abbrev pub is_init : Name → Bool
is_init = is_one_of (codes "0" ∷ codes "1" ∷ codes "2" ∷ codes "3" ∷ [])

-- initial value 1 starts the latch at 1, and any other at 0
abbrev pub starts_high : Name → Bool
starts_high init = bytes_eq init (codes "1")

-- the types of a latch that this profile takes
abbrev pub is_edge : Name → Bool
is_edge = is_one_of (codes "fe" ∷ codes "re" ∷ [])

-- those that it knows and refuses
abbrev pub is_level : Name → Bool
is_level = is_one_of (codes "ah" ∷ codes "al" ∷ codes "as" ∷ [])

-- the control of a latch, but none for `NIL`
abbrev pub named_control : Name → Option Name
named_control control = if bytes_eq control (codes "NIL") then None else Some control

-- a latch without a type
abbrev pub plain_latch : Name → Name → Bool → Statement
plain_latch from to start = latch (record { from = from; to = to; edge = None; control = None; start = start })

-- a latch with a type and a control
abbrev pub typed_latch : Name → Name → Name → Name → Bool → Statement
typed_latch from to type control start =
    if is_edge type then latch (record { from = from; to = to; edge = Some type; control = named_control control; start = start })
    else if is_level type then wrong LevelLatch
    else wrong BadLatch

-- the directives that are read past
abbrev pub is_passed : Name → Bool
is_passed = is_one_of (codes ".cname" ∷ codes ".attr" ∷ codes ".param" ∷ [])

-- a token that begins with a dot
abbrev pub begins_with_dot : Name → Bool
begins_with_dot token = slice_index token 0 == byte "."
