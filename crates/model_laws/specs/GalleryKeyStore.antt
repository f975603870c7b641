-- What samples/gallery/key_store.txt declares: a vault that keeps a key in a page which it makes in memory of its own, a user that asks it for
-- signatures, and an admin that has the key changed. It is said for any programs, and for any other fields of the image.
use Rattle.std.specs.Prelude.{ℕ, ◌≡◌, ◌≢◌, ◌&&◌, Some, Bool, false, nat_le, nat_lt, All, List, [], ◌∷◌}
use Rattle.model.specs.declared.events.Event.{Event}
use Rattle.model.specs.declared.events.Event.TheVariants.{Step}
use Rattle.model.specs.Acceptance.Accepted.{IsAccepted}
use Rattle.model.specs.Acceptance.Authority.{self_of}
use Rattle.model.specs.Acceptance.Devices.{KeepsDevices}
use Rattle.model.specs.Images.Described.{described}
use Rattle.model.specs.Images.Image.{Image, Thread, no_buffer}
use Rattle.model.specs.Kernel.Scheduling.{current}
use Rattle.model.specs.Kernel.Steps.{step}
use Rattle.headline.specs.integrity.Runs.{HasRun, last_of}

-- a thread with this control block, CNode and root table, and with no message buffer; all else of it is another's
abbrev pub placed : ℕ → ℕ → ℕ → Thread → Thread
placed tcb cnode root t = record t { header = record t.header { tcb = tcb; cnode = cnode; root = root; buffer = no_buffer } }

abbrev pub vault_with : Thread → Thread
vault_with = placed 10 13 2

abbrev pub user_with : Thread → Thread
user_with = placed 11 14 5

abbrev pub admin_with : Thread → Thread
admin_with = placed 12 15 8

-- The declarations, with the programs and certificates of three threads, and with all other fields of an image. The objects are the vault's pool;
-- code, root table and page table of each; the control blocks; the CNodes; the endpoint; and the clients' notifications.
unfoldable pub key_store : Image → Thread → Thread → Thread → Image
key_store rest vault user admin = record rest {
  header = record rest.header { memory_bits = 17; boot_radix = 6; untypeds = 1; objects = 19; interrupts = 2; frames = 3 };
  untypeds = record { offset = 0x10000; bits = 16 } ∷ [];
  objects =
      record { untyped = 0; kind = 1; size = 12 }
      ∷ record { untyped = 0; kind = 6; size = 0 } ∷ record { untyped = 0; kind = 8; size = 0 } ∷ record { untyped = 0; kind = 7; size = 0 }
      ∷ record { untyped = 0; kind = 6; size = 0 } ∷ record { untyped = 0; kind = 8; size = 0 } ∷ record { untyped = 0; kind = 7; size = 0 }
      ∷ record { untyped = 0; kind = 6; size = 0 } ∷ record { untyped = 0; kind = 8; size = 0 } ∷ record { untyped = 0; kind = 7; size = 0 }
      ∷ record { untyped = 0; kind = 2; size = 0 } ∷ record { untyped = 0; kind = 2; size = 0 } ∷ record { untyped = 0; kind = 2; size = 0 }
      ∷ record { untyped = 0; kind = 5; size = 4 } ∷ record { untyped = 0; kind = 5; size = 4 } ∷ record { untyped = 0; kind = 5; size = 4 }
      ∷ record { untyped = 0; kind = 3; size = 0 } ∷ record { untyped = 0; kind = 4; size = 0 } ∷ record { untyped = 0; kind = 4; size = 0 } ∷ [];
  capabilities =
      record { cnode = 13; index = 1; source = 0; rights = 0; payload = 0 } ∷ record { cnode = 13; index = 2; source = 13; rights = 0; payload = 28 }
      ∷ record { cnode = 13; index = 3; source = 2; rights = 0; payload = 0 } ∷ record { cnode = 13; index = 5; source = 16; rights = 2; payload = 0 }
      ∷ record { cnode = 14; index = 1; source = 17; rights = 2; payload = 0 } ∷ record { cnode = 14; index = 2; source = 19; rights = 0; payload = 0 }
      ∷ record { cnode = 14; index = 3; source = 16; rights = 9; payload = 1 } ∷ record { cnode = 15; index = 1; source = 18; rights = 2; payload = 0 }
      ∷ record { cnode = 15; index = 2; source = 20; rights = 0; payload = 0 } ∷ record { cnode = 15; index = 3; source = 16; rights = 9; payload = 2 } ∷ [];
  interrupts = record { line = 1; notification = 17; badge = 1 } ∷ record { line = 2; notification = 18; badge = 1 } ∷ [];
  tables =
      record { root = 2; address = 0; table = 3 } ∷ record { root = 5; address = 0; table = 6 } ∷ record { root = 8; address = 0; table = 9 } ∷ [];
  frames =
      record { root = 2; address = 0x1000; frame = 1; rights = 4 } ∷ record { root = 5; address = 0x1000; frame = 4; rights = 4 }
      ∷ record { root = 8; address = 0x1000; frame = 7; rights = 4 } ∷ [];
  threads = vault_with vault ∷ user_with user ∷ admin_with admin ∷ [];
}

-- the bytes of the vault's pool, whose one page has the key
abbrev pub is_of_keys : ℕ → Bool
is_of_keys place = nat_le 0x10000 place && nat_lt place 0x11000

-- over any events, whatever the three threads do, no byte outside of the pool changes
abbrev pub OtherBytesStay : Type 0
OtherBytesStay =
    (bytes : List ℕ) (rest : Image) (vault user admin : Thread) (events : List Event) (place : ℕ) → IsAccepted bytes (key_store rest vault user admin)
    → All (KeepsDevices (key_store rest vault user admin)) events → is_of_keys place ≡ false
    → (last_of (key_store rest vault user admin) events).bytes place ≡ (described (key_store rest vault user admin)).bytes place

-- and none of the pool as long as the vault has made no step: with the gallery's own priorities it makes the first
abbrev pub PoolWaitsForTheVault : Type 0
PoolWaitsForTheVault =
    (bytes : List ℕ) (rest : Image) (vault user admin : Thread) (events : List Event) (place : ℕ) → IsAccepted bytes (key_store rest vault user admin)
    → All (KeepsDevices (key_store rest vault user admin)) events → (HasRun (key_store rest vault user admin) events (vault_with vault) → ⊥)
    → (last_of (key_store rest vault user admin) events).bytes place ≡ (described (key_store rest vault user admin)).bytes place

-- after any events no step changes a byte but one of the vault: so no client changes a key, whatever it does
abbrev pub ClientsChangeNoByte : Type 0
ClientsChangeNoByte =
    (bytes : List ℕ) (rest : Image) (vault user admin : Thread) (events : List Event) (place : ℕ) → IsAccepted bytes (key_store rest vault user admin)
    → All (KeepsDevices (key_store rest vault user admin)) events
    → current (last_of (key_store rest vault user admin) events) ≢ Some (self_of (key_store rest vault user admin) (vault_with vault))
    → (step (last_of (key_store rest vault user admin) events) Step).0.bytes place ≡ (last_of (key_store rest vault user admin) events).bytes place
