-- A store with a key in a page of its own, and a client that may send to it. Each has its code, root table, page table, thread and CNode; the store
-- maps the page of the key with write, and receives at the endpoint to which the client sends.
use Rattle.std.specs.Prelude.{ℕ, ◌≡◌, List, [], ◌∷◌, ◌++◌, Contains, get_or}
use Rattle.model.specs.declared.events.Event.{Event}
use Rattle.model.specs.Images.Format.{reading}
use Rattle.model.specs.Images.Image.{Image, Thread, whole_image}
use Rattle.headline.specs.integrity.Runs.{HasRun}
use Rattle.model_laws.specs.Solo.{bytes_of, read_or_empty}
use Rattle.model_laws.specs.Worker.{worker_thread}

-- the header and the sections before the threads, by words: the objects are code, root table, page table, thread and CNode of the store, the page
-- of the key, the same five of the client, and the endpoint
abbrev pub vault_front : List ℕ
vault_front =
    (0x5359534d ∷ 1 ∷ 17 ∷ 5 ∷ 1 ∷ 12 ∷ 2 ∷ 0 ∷ 2 ∷ 3 ∷ 0 ∷ 2 ∷ []) ++ (0x10000 ∷ 16 ∷ [])
    ++ (0 ∷ 6 ∷ 0 ∷ 0 ∷ 8 ∷ 0 ∷ 0 ∷ 7 ∷ 0 ∷ 0 ∷ 2 ∷ 0 ∷ 0 ∷ 5 ∷ 4 ∷ 0 ∷ 6 ∷ 0 ∷ [])
    ++ (0 ∷ 6 ∷ 0 ∷ 0 ∷ 8 ∷ 0 ∷ 0 ∷ 7 ∷ 0 ∷ 0 ∷ 2 ∷ 0 ∷ 0 ∷ 5 ∷ 4 ∷ 0 ∷ 3 ∷ 0 ∷ [])
    ++ (4 ∷ 1 ∷ 11 ∷ 2 ∷ 0 ∷ 10 ∷ 1 ∷ 11 ∷ 1 ∷ 7 ∷ []) ++ (1 ∷ 0 ∷ 2 ∷ 7 ∷ 0 ∷ 8 ∷ [])
    ++ (1 ∷ 0x1000 ∷ 0 ∷ 4 ∷ 1 ∷ 0x2000 ∷ 5 ∷ 3 ∷ 7 ∷ 0x1000 ∷ 6 ∷ 4 ∷ [])

-- a thread of four instructions, the call of this number among them, with its certificate
abbrev pub vault_thread : ℕ → ℕ → ℕ → ℕ → List ℕ
vault_thread tcb cnode root call =
    (tcb ∷ cnode ∷ 28 ∷ root ∷ 100 ∷ 4 ∷ 0 ∷ 0 ∷ 0 ∷ 0x1000 ∷ 0 ∷ 4 ∷ 1 ∷ []) ++ (0x100513 ∷ call ∷ 0x73 ∷ 0xff5ff06f ∷ []) ++ (0 ∷ 0 ∷ 0 ∷ 0 ∷ 3 ∷ 0 ∷ [])

-- the store receives, and the client sends
unfoldable pub vault_bytes : List ℕ
vault_bytes = bytes_of (vault_front ++ vault_thread 3 4 1 0x500893 ++ vault_thread 9 10 7 0x300893)

unfoldable pub vault : Image
vault = read_or_empty (reading whole_image vault_bytes)

unfoldable pub store : Thread
store = get_or vault.threads 0 worker_thread

unfoldable pub client : Thread
client = get_or vault.threads 1 worker_thread

-- no other thread makes a step
abbrev pub OnlyClientRuns : List Event → Type 0
OnlyClientRuns events = (t : Thread) → Contains vault.threads t → HasRun vault events t → t ≡ client
