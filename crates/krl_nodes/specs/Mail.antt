-- The post as plain data.
use Rattle.std.specs.Prelude.{ℕ, List}
use Rattle.krl_messages.specs.Values.{Value}
use Rattle.krl_messages.specs.declared.to_server.ToServer.{ToServer}
use Rattle.krl_messages.specs.declared.to_client.ToClient.{ToClient}
use Rattle.krl_nodes.specs.declared.post.Chair.{Chair}

pub record Mail : Type 0 where
  pub opening : List (ℕ × Value)  -- the entries that the world began with
  pub to_server : List ToServer  -- the letters to the server, oldest first
  pub to_clients : List (List ToClient)  -- those to each client by its number, oldest first
  pub chairs : List Chair  -- by client number
